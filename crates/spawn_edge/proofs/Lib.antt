mod Examples
pub mod Following
pub mod Keeping
pub mod Leaving
pub mod Running
