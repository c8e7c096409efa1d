pub mod Books
pub mod Cutting
pub mod Filling
pub mod Refusals
pub mod Runs
pub mod Sets
pub mod Sites
pub mod inner
