-- What the contracts of `rims` cite: the tables of cells under a rim.
pub mod Offsets
pub mod Boxes
pub mod Tiles
pub mod Sums
