pub mod Chains
pub mod Same
