pub mod NoticeLemmas
