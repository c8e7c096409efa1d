pub mod Courses
pub mod Puts
pub mod Handed
pub mod Sendings
pub mod Attempts
