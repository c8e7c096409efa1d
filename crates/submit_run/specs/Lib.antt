pub mod Ends
pub mod Inputs
pub mod Messages
pub mod Parties
pub mod Rows
pub mod Taken
pub mod inner
