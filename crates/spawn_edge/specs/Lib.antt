pub mod Children
pub mod Lives
pub mod Spawned
pub mod inner
