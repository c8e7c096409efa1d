mod Candidates
mod Ends
mod FillLemmas
mod LookLemmas
mod Moves
mod Naming
pub mod RewriteLemmas
mod SetLemmas
mod Skipping
mod ThroughLemmas
mod Unique
mod ValueLemmas
mod Walking
