pub mod AskLemmas
pub mod Causing
mod Examples
mod Finding
pub mod Giving
pub mod Taking
