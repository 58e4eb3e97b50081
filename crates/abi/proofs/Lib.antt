pub mod SetupLaws
pub mod PathLaws
pub mod PassLaws
pub mod CutLaws
