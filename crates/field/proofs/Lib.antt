-- The laws of `field`, on the definitions alone.
pub mod GaugeLaws
pub mod FieldLaws
pub mod SplitLaws
pub mod BandLaws
pub mod RoundLaws
pub mod SquareLaws
pub mod ShadedLaws
pub mod SweepLaws
pub mod DoneLaws
