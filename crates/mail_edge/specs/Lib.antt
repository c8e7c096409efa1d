pub mod Asking
pub mod Moves
pub mod Readings
pub mod Seen
