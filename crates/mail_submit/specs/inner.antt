pub mod Behind
pub mod Fronts
