-- What the contracts of `setup` cite.
pub mod Layout
pub mod Limits
pub mod Place
pub mod Made
pub mod Tables
