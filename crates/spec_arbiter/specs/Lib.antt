pub mod Boards
pub mod Claims
pub mod SetLaws
pub mod Bypass
