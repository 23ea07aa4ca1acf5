pub mod both_modes
pub mod both_items
pub mod total
pub mod sites
pub mod both_sites
