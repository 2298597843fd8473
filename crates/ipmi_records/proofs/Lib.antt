pub mod ColumnLemmas
pub mod ExistenceLemmas
pub mod PaddingLemmas
pub mod TextLemmas
pub mod UniqueLemmas
