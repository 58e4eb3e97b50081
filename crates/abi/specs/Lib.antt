pub mod Distance
pub mod Links
pub mod Numbers
pub mod Geom
pub mod Raster
pub mod Setup
pub mod Passes
pub mod Cutting
