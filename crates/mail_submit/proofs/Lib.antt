mod BufferLemmas
mod ReadLemmas
mod SubmitLemmas
mod BehindLemmas
mod Examples
