pub mod Forms
pub mod Texts
pub mod Words
pub mod Answers
pub mod Printing
pub mod inner
