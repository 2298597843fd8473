pub mod Answer
pub mod Causes
pub mod Input
pub mod Labels
pub mod Printing
pub mod WithLacks
pub mod Wording
