pub mod Given
pub mod Timers
