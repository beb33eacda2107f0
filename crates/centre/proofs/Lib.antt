pub mod EntryLaws
pub mod PlacedLaws
pub mod SizeLaws
pub mod StateLaws
