pub mod Affected
pub mod Among
pub mod Dependents
pub mod Restarts
pub mod Walk
