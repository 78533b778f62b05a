pub mod Tables
pub mod Searching
pub mod TableLaws
pub mod PlanLaws
pub mod Plainness
pub mod Units
