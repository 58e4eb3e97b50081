-- What the contracts of `report` cite.
pub mod Kinds
pub mod Report
pub mod Zero
