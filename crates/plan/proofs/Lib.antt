-- For the proofs of the functions: `PartsLaws`, `TurnsLaws`. Demand 3: `PartsTold`, `PlanTold`.
pub mod PartsLaws
pub mod TurnsLaws
pub mod PartsTold
pub mod PlanTold
