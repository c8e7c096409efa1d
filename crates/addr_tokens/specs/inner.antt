pub mod Fronts
pub mod Joining
pub mod Scanning
pub mod Spanning
pub mod Tables
pub mod Views
