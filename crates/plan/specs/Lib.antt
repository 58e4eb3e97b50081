-- What the contracts of `plan` cite: the parts of a round, the rounds; and the job that a plan is about.
pub mod Parts
pub mod Rounds
pub mod Job
