pub mod MessageLemmas
pub mod RequestLemmas
pub mod ReadLemmas
pub mod PrintedLemmas
