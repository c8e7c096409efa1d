pub mod ClaimLemmas
mod SplitLemmas
pub mod ReadyLemmas
mod StepLemmas
mod PutLemmas
mod WaitLemmas
mod OwnLemmas
mod SettleLemmas
mod LetterLemmas
mod AskingLemmas
mod BackLemmas
mod SendLemmas
mod ReturnLemmas
mod StartLemmas
mod TalkLemmas
mod FinishLemmas
mod AimLemmas
mod AttemptLemmas
mod DrawLemmas
mod HandLemmas
mod LawLemmas
mod Examples
mod PeerLemmas
mod PeerExamples
mod TalkExamples
