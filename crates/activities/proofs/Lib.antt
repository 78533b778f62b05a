pub mod CheckLaws
pub mod DiscoveryLaws
pub mod Kept
pub mod PrimingLaws
pub mod ScanLaws
pub mod TestLaws
pub mod Tokens
pub mod Underscores
