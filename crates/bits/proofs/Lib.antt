pub mod FloatLaws
pub mod HexLaws
