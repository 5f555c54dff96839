pub mod Lit
pub mod Spans
