pub mod Answering
pub mod Invariant
pub mod Numbers
pub mod Reacting
pub mod Settled
