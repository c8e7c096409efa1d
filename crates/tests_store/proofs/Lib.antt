mod SampleLemmas
mod NextLemmas
