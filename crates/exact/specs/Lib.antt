pub mod Whole
pub mod Outcome
pub mod Signed
