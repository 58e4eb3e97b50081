pub mod LayoutLaws
pub mod GuardLaws
pub mod LimitLaws
pub mod PlaceLaws
pub mod PartLaws
pub mod MadeLaws
pub mod TableLaws
