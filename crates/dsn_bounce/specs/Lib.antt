pub mod Returned
pub mod Rows
