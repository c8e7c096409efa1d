pub mod Groups
pub mod Parts
pub mod Cuts
pub mod Rows
pub mod inner
