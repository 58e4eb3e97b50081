-- What every layer cites: a counting loop as a fold, the least in an order, the parts of a slice, the cells of a map.
pub mod Loop
pub mod Least
pub mod Regions
pub mod Cells
pub mod Each
pub mod Frame
