-- For the proofs of the functions: `PlaceLaws`, `FloodLaws`.
pub mod PlaceLaws
pub mod FloodLaws
