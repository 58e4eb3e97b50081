pub mod CondLaws
pub mod FieldLaws
pub mod DecimalLaws
pub mod SpellLaws
pub mod MeaningLaws
pub mod LineLaws
pub mod ObeyLaws
