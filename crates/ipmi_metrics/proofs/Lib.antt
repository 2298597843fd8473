pub mod EscapeLemmas
pub mod GatheredLemmas
pub mod LabelLemmas
pub mod LawLemmas
pub mod MetricsLemmas
pub mod SampleLemmas
