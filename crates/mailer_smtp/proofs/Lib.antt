pub mod LineLemmas
pub mod TalkLemmas
pub mod HearLemmas
pub mod ConverseLemmas
pub mod DeliverLemmas
pub mod OneLemmas
pub mod PlanLemmas
mod Examples
