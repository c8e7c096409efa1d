pub mod Judged
pub mod Returned
