pub mod Sendable
pub mod Checked
