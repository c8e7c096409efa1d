mod HoldingLemmas
mod CallLemmas
mod PlanLemmas
mod OrderLemmas
mod PriorityLemmas
mod EntryLemmas
pub mod GoingLemmas
pub mod SoundLemmas
pub mod StayLemmas
pub mod LowLemmas
pub mod AskedLemmas
pub mod CommandLemmas
mod ResultLemmas
mod RecordLemmas
mod ClaimLemmas
mod OpenLemmas
pub mod DirLemmas
