pub mod Names
pub mod Rewriting
pub mod inner
