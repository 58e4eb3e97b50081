-- `JudgedLaws`: what callers learn from the answer. The others are for the proofs of the functions and for it.
pub mod RegionsLaws
pub mod ShapeLaws
pub mod RangeLaws
pub mod FirstLaws
pub mod FitLaws
pub mod RasterLaws
pub mod JudgedLaws
