pub mod CommandLemmas
mod Examples
mod JobLemmas
pub mod LineLemmas
mod MailLemmas
mod OptionLemmas
mod ReadLemmas
mod WaitLemmas
mod WordLemmas
mod WrittenLemmas
