-- `JobLaws`: what is known of a job. `AnsweredLaws`: term 3. The others serve the proofs of the functions.
pub mod JobLaws
pub mod AnsweredLaws
pub mod AnswerLaws
pub mod ReadyLaws
pub mod FitLaws
pub mod ShrinkLaws
