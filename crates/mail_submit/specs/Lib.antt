pub mod Examples
pub mod Inputs
pub mod Parts
pub mod Said
pub mod Submissions
pub mod inner
