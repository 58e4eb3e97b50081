-- What the steps of a plan cite: the workspace between them.
pub mod Lies
pub mod Standing
