pub mod ConstantLuminance
pub mod Inner
