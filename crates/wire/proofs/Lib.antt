pub mod StatusLaws
pub mod FieldLaws
pub mod CommandLaws
pub mod OneAnswer
