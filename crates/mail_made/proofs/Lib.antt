pub mod PartLemmas
pub mod FormLemmas
