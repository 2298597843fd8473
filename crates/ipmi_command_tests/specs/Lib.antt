pub mod Asked
pub mod Replied
