-- For the proofs of the functions: `SettleLaws`, `WayLaws`, `TriesKeep`, `TriesLaws`, `RoomLaws`, `ListingLaws`, `ListedLaws`, `KeepLaws`, `GoLaws`, `PieceLaws`.
-- `TryLegal`, `TriesLegal`: the tries of a piece are legal events, `WayLegal`: so is the way to the pass that is worth it, `CutLegal`: so is the cutting of the
-- piece. `TriesHolds`, `CutHolds`: the lent rows and triples hold what is listed. `CutTold`: demand 3 over a piece.
pub mod SettleLaws
pub mod WayLaws
pub mod TriesKeep
pub mod TriesLaws
pub mod RoomLaws
pub mod ListingLaws
pub mod ListedLaws
pub mod KeepLaws
pub mod GoLaws
pub mod PieceLaws
pub mod TryLegal
pub mod TriesLegal
pub mod WayLegal
pub mod CutLegal
pub mod TriesHolds
pub mod CutHolds
pub mod CutTold
