pub mod MovesLemmas
pub mod OpenLemmas
pub mod Adding
pub mod Carrying
mod Committing
mod Lists
pub mod Numbering
mod Tidying
mod Places
mod Raising
mod Reading
pub mod Replacing
mod Stages
pub mod Standing
mod Sweeping
mod Waiting
mod Verdicts
mod Samples
mod Needed
mod Writing
mod Agreeing
mod Keeping
mod Finishing
mod Shelving
mod Fitting
mod Owning
mod Replaces
mod Bodies
mod Ended
mod Drafting
mod ParcelLemmas
mod UnderLemmas
mod HoldingLemmas
mod Finding
mod SweepLemmas
mod Judgements
mod Searching
mod Readings
mod LooksLemmas
mod PlanLemmas
mod RecoveryLemmas
mod TellingLemmas
mod ShowingLemmas
mod OrderLemmas
mod Reopening
mod Matching
