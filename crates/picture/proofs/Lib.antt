pub mod Agreement
pub mod Calls
pub mod Card
pub mod Claims
pub mod Faithful
mod Neighbours
mod Rows
pub mod Totals
pub mod Sums
mod Foretold
pub mod Steps
pub mod Demand
pub mod Resume
pub mod Answerable
pub mod Histories
pub mod Theorem
