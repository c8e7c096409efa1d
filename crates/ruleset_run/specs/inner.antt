pub mod Filler
pub mod Looks
pub mod Values
