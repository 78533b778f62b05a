pub mod Failures
pub mod Well
