pub mod Diagnostics
pub mod Workspaces
pub mod Jobs
pub mod Loading
pub mod News
pub mod Events
