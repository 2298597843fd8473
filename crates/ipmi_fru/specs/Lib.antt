pub mod Area
pub mod Fault
pub mod Field
pub mod Header
pub mod Line
pub mod Multirecord
pub mod Prelude
pub mod Print
