pub mod Texts
pub mod Plans
pub mod Talks
pub mod Deliveries
pub mod inner
