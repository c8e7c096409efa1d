pub mod Kept
pub mod KeptLines
pub mod Parts
pub mod Rests
