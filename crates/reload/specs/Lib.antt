pub mod Asked
pub mod Errors
pub mod Graph
pub mod GraphLaws
pub mod Names
pub mod Refresh
pub mod Switch
pub mod Watchers
