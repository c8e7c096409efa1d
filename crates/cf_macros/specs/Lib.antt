pub mod Constructs
pub mod Dates
pub mod Expansion
pub mod Names
pub mod Readings
pub mod SessionMacros
pub mod Written
pub mod inner
