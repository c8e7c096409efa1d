pub mod Added
pub mod Ends
pub mod Tidy
pub mod Wholes
