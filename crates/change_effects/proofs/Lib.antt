mod EffectLemmas
pub mod RootLaws
pub mod TextLemmas
pub mod UpdateLaws
