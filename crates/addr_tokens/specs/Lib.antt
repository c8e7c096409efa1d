pub mod Pieces
pub mod Scans
pub mod Joins
pub mod Members
pub mod Reader
pub mod Spans
pub mod Separators
pub mod inner
