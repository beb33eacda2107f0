pub mod ClassLaws
pub mod HexLaws
pub mod TextLaws
pub mod TimeLaws
