pub mod Changes
pub mod Needs
