pub mod ReadLemmas
pub mod RowLemmas
