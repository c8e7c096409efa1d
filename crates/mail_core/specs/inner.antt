pub mod Going
pub mod Handling
pub mod UnderWay
pub mod Nexts
pub mod Carrying
pub mod Turns
pub mod Lanes
pub mod Fixing
