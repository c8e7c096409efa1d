mod FillLemmas
mod LawLemmas
