pub mod InitialLaws
pub mod ProjectLaws
