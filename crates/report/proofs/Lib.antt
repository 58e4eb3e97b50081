pub mod ZeroLaws
pub mod StandingLaws
pub mod KindLaws
pub mod ReportLaws
pub mod CountedLaws
