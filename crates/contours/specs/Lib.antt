-- What the contracts of `contours` cite.
pub mod Edge
pub mod Square
pub mod March
pub mod Quiet
pub mod Curve
pub mod Chain
pub mod Held
pub mod Places
pub mod Traced
pub mod Used
