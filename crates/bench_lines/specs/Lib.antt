-- What the contracts of `bench_lines` cite.
pub mod Words
pub mod Line
pub mod Meaning
pub mod Obey
pub mod Reader
