pub mod Changes
pub mod EffectLaws
pub mod Effects
pub mod Filing
pub mod Update
