pub mod Samples
pub mod Nexts
