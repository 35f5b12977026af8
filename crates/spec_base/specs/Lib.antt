pub mod Folds
pub mod Number
pub mod Placing
pub mod Layout
