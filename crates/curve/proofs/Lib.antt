pub mod Tests
pub mod Curve
pub mod Lights
pub mod Unit
