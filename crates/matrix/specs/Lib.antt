pub mod Triples
pub mod Inner
