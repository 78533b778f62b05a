pub mod Found
pub mod GraphLaws
pub mod NameLaws
pub mod PlaceLaws
pub mod Pushed
pub mod SwitchLaws
