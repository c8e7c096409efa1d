mod Examples
pub mod Following
pub mod Keeping
pub mod Leaving
pub mod LineFollowing
pub mod LineKeeping
pub mod LineSounding
pub mod Reading
pub mod Sessioning
pub mod Sounding
pub mod Stepping
