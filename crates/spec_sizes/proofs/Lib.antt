pub mod Readings
pub mod Range
