pub mod SearchLaws
pub mod PathEnds
pub mod Unnamed
pub mod ParentPairs
