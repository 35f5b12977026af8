pub mod Sizes
pub mod Readings
