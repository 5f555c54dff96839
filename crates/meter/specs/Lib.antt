pub mod Meter
