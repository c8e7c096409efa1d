pub mod Filling
pub mod Ways
