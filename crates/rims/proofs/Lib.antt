-- The laws of `rims`, on the definitions alone.
pub mod OffsetLaws
pub mod FirstLaws
pub mod BlockLaws
pub mod BoxLaws
pub mod TileLaws
pub mod NearLaws
pub mod HitLaws
pub mod SumLaws
