-- What the contracts of `distance` cite. `Least` says what the squares are, `Nearest` says it as functions, `Rooted` has the distances and `Limits` the tests of them.
-- The others are inner contracts: the two sweeps of a column (`Column`), the lower envelope of a row (`Envelope`), what a loop wrote (`Wrote`).
pub mod Least
pub mod Nearest
pub mod Rooted
pub mod Limits
pub mod Wrote
pub mod Column
pub mod Envelope
