pub mod Block
pub mod Read
pub mod Inner
