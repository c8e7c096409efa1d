pub mod Books
pub mod Covering
pub mod Looking
pub mod Phrases
pub mod TokenLaws
