pub mod Room
pub mod Saying
pub mod Sheets
pub mod Spelling
pub mod Valid
pub mod inner
