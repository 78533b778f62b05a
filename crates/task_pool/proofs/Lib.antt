pub mod Crews
pub mod Ends
pub mod Finishing
pub mod Honest
pub mod Running
pub mod Sent
