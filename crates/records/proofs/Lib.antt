pub mod RecordLaws
pub mod SpaceLaws
pub mod NamedLaws
