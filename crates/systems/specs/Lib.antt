pub mod Systems
pub mod Refusals
pub mod Inner
