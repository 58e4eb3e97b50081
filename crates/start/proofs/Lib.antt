pub mod WriteLaws
pub mod StockLaws
pub mod ReachLaws
pub mod StartLaws
pub mod BlockLaws
