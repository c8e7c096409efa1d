pub mod Arguments
pub mod Ends
pub mod Starts
pub mod inner
