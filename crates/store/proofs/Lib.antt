pub mod AccountLaws
pub mod PlacesLaws
