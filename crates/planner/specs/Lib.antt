-- What the contracts of `planner` cite.
pub mod Planner
pub mod Answered
