pub mod OkLemmas
pub mod PerformanceLemmas
pub mod TextLemmas
