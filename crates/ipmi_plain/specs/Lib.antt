pub mod Answers
pub mod Plain
