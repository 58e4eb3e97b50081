-- What the contracts of `entry` cite.
pub mod Regions
pub mod Questions
pub mod Admitted
