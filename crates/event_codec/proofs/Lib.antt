pub mod Appending
pub mod JsonLemmas
pub mod Loops
pub mod SignedLemmas
pub mod TextLemmas
