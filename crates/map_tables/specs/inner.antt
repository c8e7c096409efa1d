pub mod Depths
pub mod FilePlaces
pub mod MapPlaces
pub mod Members
