-- The laws of `spans`, on the definitions alone.
pub mod IdleLaws
pub mod MonoLaws
pub mod EdgeLaws
pub mod HeightLaws
pub mod ColumnLaws
pub mod TableLaws
