pub mod Sections
pub mod Written
pub mod Samples
