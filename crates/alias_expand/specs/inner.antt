pub mod AliasPlaces
pub mod Costs
pub mod Cutting
pub mod Holding
pub mod Pieces
pub mod Steps
