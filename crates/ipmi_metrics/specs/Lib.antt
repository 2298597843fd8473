pub mod Families
pub mod Gathered
pub mod Labels
pub mod Laws
pub mod Measure
pub mod Metrics
pub mod Samples
