-- What the public contracts rest on.
pub mod Order
pub mod Placing
pub mod Walk
