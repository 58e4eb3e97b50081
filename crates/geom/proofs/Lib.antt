pub mod PointLaws
pub mod RegionLaws
pub mod SegmentLaws
pub mod ApartLaws
