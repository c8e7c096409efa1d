-- What private contracts alone cite.
pub mod Places
pub mod Readings
pub mod Steps
pub mod Making
pub mod Additions
pub mod Cuttings
pub mod Settled
pub mod Scans
