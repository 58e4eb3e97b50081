-- What the contracts of `dilation` cite.
pub mod Window
pub mod Parts
