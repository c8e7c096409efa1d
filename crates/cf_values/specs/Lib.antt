pub mod Refusals
pub mod Numbers
pub mod Times
pub mod Flags
pub mod inner
