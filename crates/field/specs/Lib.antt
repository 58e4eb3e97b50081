-- What the contracts of `field` cite.
pub mod Field
pub mod Gauge
pub mod Bands
pub mod Squares
pub mod Round
