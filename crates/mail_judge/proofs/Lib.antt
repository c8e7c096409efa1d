mod JudgeLemmas
mod LawLemmas
mod ReturnLemmas
