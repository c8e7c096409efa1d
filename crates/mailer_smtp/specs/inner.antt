pub mod Inboxes
pub mod Looks
pub mod Steps
pub mod Ways
