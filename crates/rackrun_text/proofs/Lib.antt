pub mod LineLaws
pub mod RunText
