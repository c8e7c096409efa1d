pub mod Aliases
pub mod Homes
pub mod Lines
pub mod Members
pub mod Owners
pub mod Rows
pub mod Triples
pub mod inner
