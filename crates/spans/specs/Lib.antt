-- What the contracts of `spans` cite: the table of a disk's columns, and what its parts promise one another.
pub mod Spans
pub mod Ends
