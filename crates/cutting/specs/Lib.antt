-- What the contracts of `cutting` cite.
pub mod Tries
pub mod Way
pub mod Listing
pub mod Piece
