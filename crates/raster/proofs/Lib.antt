-- The laws of `raster`, on the definitions alone.
pub mod GridLaws
pub mod DiskLaws
pub mod RowLaws
pub mod SweepLaws
pub mod StockLaws
pub mod LogLaws
pub mod ContactLaws
pub mod RunLaws
pub mod PaintLaws
pub mod ClearLaws
pub mod OrderLaws
