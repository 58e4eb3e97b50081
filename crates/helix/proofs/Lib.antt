-- For the proofs of the functions: `RadiusLaws`, `SearchLaws`, `EnterLaws`. `ShrinkLaws`: the shrinks are never used up. `HelixTold`: demand 3 over the search
-- for an entry.
pub mod RadiusLaws
pub mod SearchLaws
pub mod EnterLaws
pub mod ShrinkLaws
pub mod HelixTold
