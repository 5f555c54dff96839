pub mod Luminance
pub mod Inner
