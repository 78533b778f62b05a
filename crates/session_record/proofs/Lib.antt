pub mod KeptLemmas
pub mod PropLemmas
pub mod RootLemmas
pub mod SinceLemmas
pub mod Unfit
pub mod Whole
