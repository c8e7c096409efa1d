pub mod Judging
pub mod Mails
pub mod Replies
pub mod Dialogue
pub mod Sessions
pub mod Forms
pub mod Finals
pub mod inner
