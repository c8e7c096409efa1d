mod HoldLemmas
mod LiteralLemmas
mod NoteLemmas
