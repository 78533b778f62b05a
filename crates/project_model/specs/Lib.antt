pub mod Dependencies
pub mod Same
pub mod Targets
pub mod Workspaces
pub mod Msrv
