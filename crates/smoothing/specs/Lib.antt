-- What the contracts of `smoothing` cite.
pub mod Smooth
