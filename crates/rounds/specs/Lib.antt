-- What the contracts of `rounds` cite.
pub mod Next
pub mod Round
