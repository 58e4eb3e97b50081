-- What the contracts of `examples` cite.
pub mod Examples
