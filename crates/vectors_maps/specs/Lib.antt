-- What the replay compares with.
pub mod Print
pub mod Maps
pub mod Answers
