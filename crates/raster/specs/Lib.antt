-- What the contracts of `raster` cite: a raster's cells, the rows of a disk and of a crescent, the turns over their cells, the stock map, its log, contact.
pub mod Grid
pub mod Disk
pub mod Sweep
pub mod Stock
pub mod Log
pub mod Contact
