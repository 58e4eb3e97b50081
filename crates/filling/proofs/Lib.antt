-- The laws of `filling`, on the definitions alone.
pub mod ColumnLaws
pub mod CentreLaws
pub mod CrossingLaws
pub mod ScanLaws
pub mod RowLaws
pub mod FillLaws
pub mod FilledLaws
