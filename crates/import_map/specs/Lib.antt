pub mod json_reading
-- What the public contracts rest on.
pub mod ImportMap
pub mod Order
pub mod Follow
pub mod Fronts
pub mod Names
