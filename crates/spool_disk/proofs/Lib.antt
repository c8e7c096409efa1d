mod Examples
pub mod Filing
pub mod Holding
pub mod Finding
pub mod Naming
pub mod Placing
pub mod Recording
pub mod Stopping
