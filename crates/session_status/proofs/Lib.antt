pub mod Failures
pub mod Projects
pub mod Told
