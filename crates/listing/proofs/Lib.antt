pub mod Digits
pub mod Listed
pub mod Example
