pub mod MapLaws
pub mod AnswerLaws
