pub mod Claims
pub mod Solution
pub mod Rise
pub mod Theorem
