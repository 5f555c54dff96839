pub mod Calls
pub mod Card
pub mod Claims
pub mod Turns
mod Windows
pub mod Lists
pub mod Theorem
