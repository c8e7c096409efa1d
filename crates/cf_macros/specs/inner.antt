pub mod Found
pub mod Insides
pub mod Levels
pub mod Runs
