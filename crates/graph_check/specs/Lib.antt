pub mod SeenGraph
pub mod Check
