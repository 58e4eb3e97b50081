pub mod CurvesLaws
pub mod RoundLaws
pub mod NudgeLaws
pub mod RingLaws
