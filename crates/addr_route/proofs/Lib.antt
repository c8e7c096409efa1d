mod AimLemmas
mod BoundLemmas
mod EndLemmas
mod OneLemmas
mod SomeLemmas
mod TextLemmas
