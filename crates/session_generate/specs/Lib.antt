pub mod Settings
pub mod Summary
pub mod Generating
