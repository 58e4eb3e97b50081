-- What the contracts of `links` cite.
pub mod Node
pub mod Ground
pub mod Heap
pub mod Sift
pub mod Straight
pub mod Lattice
pub mod Search
pub mod Path
pub mod Link
