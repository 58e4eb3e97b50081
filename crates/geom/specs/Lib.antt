-- What the contracts of `geom` cite.
pub mod Vec
pub mod Region
pub mod Points
pub mod Segment
pub mod Apart
