pub mod StretchLaws
pub mod EquivalenceLaws
pub mod LentLaws
pub mod PatchLaws
pub mod NumberLaws
pub mod RowsLaws
