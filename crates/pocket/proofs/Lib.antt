-- `KeptLaws`: what a crescent leaves of its log, for readers. The others are for the proofs of the functions.
pub mod AskedLaws
pub mod LeafLaws
pub mod RimLaws
pub mod CrescentLaws
pub mod KeptLaws
pub mod LoggedLaws
pub mod ShapeLaws
pub mod FarLaws
pub mod PlanLaws
