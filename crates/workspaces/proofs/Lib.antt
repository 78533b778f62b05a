pub mod FetchLaws
pub mod Entries
pub mod Pushed
pub mod QueueLaws
