pub mod Planning
pub mod Least
pub mod Directing
