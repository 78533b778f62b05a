pub mod Marked
pub mod WalkLaws
pub mod RowLaws
pub mod RoundLaws
