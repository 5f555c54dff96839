pub mod Scales
pub mod Ranges
pub mod Answerable
