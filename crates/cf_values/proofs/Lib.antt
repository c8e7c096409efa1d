pub mod DigitLemmas
pub mod ParseLemmas
pub mod StandLemmas
pub mod RefusalLemmas
pub mod NumberLemmas
pub mod TimeLemmas
pub mod ComputedLemmas
