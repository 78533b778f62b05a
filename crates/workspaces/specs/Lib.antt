pub mod Builds
pub mod FetchRuns
pub mod Fetches
pub mod Loads
pub mod QueueRuns
pub mod Roots
pub mod Switching
pub mod Workspaces
