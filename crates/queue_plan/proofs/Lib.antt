mod BucketLemmas
pub mod CountLemmas
mod CutLemmas
mod FirstLemmas
pub mod FitLemmas
mod GroupLemmas
mod LawLemmas
mod PartLemmas
mod PlaceLemmas
mod RowLemmas
