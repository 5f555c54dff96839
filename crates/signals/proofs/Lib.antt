pub mod Unit
pub mod Exact
pub mod Halves
pub mod Quotient
pub mod Return
