pub mod CommandLines
pub mod MailWords
pub mod inner
