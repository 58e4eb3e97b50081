-- What the contracts of `filling` cite: a region's cells, and how its code finds them.
pub mod Fill
pub mod Columns
