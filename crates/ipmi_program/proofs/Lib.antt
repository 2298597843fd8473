mod LabelLemmas
pub mod LackLemmas
