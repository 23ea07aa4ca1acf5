-- What the public contracts rest on.
pub mod Transfer
pub mod Memory
