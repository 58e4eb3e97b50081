-- What the contracts of `pieces` cite.
pub mod Piece
