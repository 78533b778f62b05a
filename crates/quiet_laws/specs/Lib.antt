pub mod Heard
pub mod Rest
