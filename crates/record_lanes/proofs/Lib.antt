pub mod LaneLaws
pub mod LanePasses
