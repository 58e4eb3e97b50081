-- What the contracts of `prints` cite.
pub mod Print
