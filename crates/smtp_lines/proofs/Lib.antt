pub mod CommandLemmas
pub mod EndLemmas
mod FoundLemmas
pub mod GivenLemmas
mod GrammarLemmas
pub mod LineLemmas
mod NumberLemmas
mod ParameterLemmas
mod PathLemmas
mod PathStepLemmas
pub mod ReadLemmas
pub mod ReadingLemmas
mod ReplyLemmas
pub mod RunLemmas
pub mod StandLemmas
mod TailLemmas
pub mod TakeLemmas
mod WordLemmas
