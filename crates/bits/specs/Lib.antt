-- What the contracts of `bits` cite.
pub mod Hex
