mod EndsLemmas
mod FoundLemmas
mod GatherLemmas
pub mod GrammarLemmas
pub mod MadeLemmas
mod PlaceLemmas
mod SearchLemmas
pub mod SizeLemmas
pub mod SplitLemmas
mod WholeLemmas
