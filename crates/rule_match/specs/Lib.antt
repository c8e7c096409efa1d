pub mod Choices
pub mod Kept
pub mod Wants
pub mod inner
