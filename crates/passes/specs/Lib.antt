-- What the contracts of `passes` cite.
pub mod Shifts
pub mod Simulate
pub mod Tried
pub mod Guide
pub mod Worth
pub mod Start
pub mod Attempt
