-- What the contracts of `start` cite.
pub mod Start
pub mod Steps
pub mod Blocks
