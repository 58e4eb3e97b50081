-- `Place`: the open cells and the farthest of them from the walls. `Flood`: the connected open cells given up.
pub mod Place
pub mod Flood
