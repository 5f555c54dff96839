pub mod Curve
pub mod Inner
