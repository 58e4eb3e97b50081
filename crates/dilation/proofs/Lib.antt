-- The laws of `dilation`, on the definitions alone.
pub mod WidthLaws
pub mod CoverLaws
pub mod ColumnLaws
pub mod DownLaws
pub mod ShadeLaws
