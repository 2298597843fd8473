pub mod Laws
pub mod Name
pub mod Performance
pub mod Standing
pub mod Text
pub mod Verdict
