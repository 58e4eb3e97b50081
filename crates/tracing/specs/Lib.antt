-- What the contracts of `tracing` cite.
pub mod Curves
pub mod Round
pub mod Ring
