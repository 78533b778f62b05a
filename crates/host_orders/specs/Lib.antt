pub mod HostOrders
pub mod Runs
