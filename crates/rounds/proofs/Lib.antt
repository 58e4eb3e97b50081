-- For the proofs of the functions: `NextLaws`, `RowsLaws`, `RoomLaws`, `RoundLaws`. `RoundsTold`: demand 3 over a round's pieces.
pub mod NextLaws
pub mod RowsLaws
pub mod RoomLaws
pub mod RoundLaws
pub mod RoundsTold
