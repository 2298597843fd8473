pub mod Cells
pub mod Columns
pub mod Format
pub mod Laws
pub mod Row
pub mod Values
