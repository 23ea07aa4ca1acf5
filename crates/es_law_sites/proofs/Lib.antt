pub mod shapes
pub mod literal_places
pub mod ranges
pub mod plain
