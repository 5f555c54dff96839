pub mod Luminances
