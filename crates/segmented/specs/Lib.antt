pub mod Segmented
