-- The laws of `smoothing`, on the definitions alone.
pub mod StepLaws
pub mod SmoothLaws
pub mod CurveLaws
pub mod RowLaws
pub mod AllLaws
