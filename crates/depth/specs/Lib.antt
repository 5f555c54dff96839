pub mod Depth
pub mod Inner
