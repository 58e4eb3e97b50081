-- What the contracts of `pocket` cite.
pub mod Ranges
pub mod Answers
pub mod Refusals
pub mod Leaves
pub mod Plan
