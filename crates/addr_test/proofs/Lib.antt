mod ListingLemmas
mod PrintingLemmas
mod RouteLemmas
mod RunLemmas
