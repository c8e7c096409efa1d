pub mod Answering
pub mod Buckets
pub mod Targets
