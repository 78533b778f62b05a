pub mod Start
pub mod Record
pub mod Keeping
pub mod Since
