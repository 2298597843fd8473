pub mod ArgumentLemmas
pub mod CommandLemmas
pub mod FilterLemmas
pub mod LawLemmas
pub mod NumberedLemmas
pub mod TableLemmas
