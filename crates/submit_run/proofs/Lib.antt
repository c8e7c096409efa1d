mod DrawingLemmas
mod FormLemmas
mod HandingLemmas
mod OneLemmas
mod ReadingLemmas
mod StoringLemmas
mod SubmitLemmas
mod WholeLemmas
