pub mod Reader
pub mod Inner
pub mod Book
