pub mod Search
pub mod Order
pub mod Change
pub mod PathLaws
