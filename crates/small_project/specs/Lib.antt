pub mod Builds
pub mod Workspaces
