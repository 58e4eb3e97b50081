-- What the replay compares with.
pub mod OfNumbers
