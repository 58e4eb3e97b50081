-- The laws of `pieces`, on the definitions alone.
pub mod PartLaws
pub mod PieceLaws
