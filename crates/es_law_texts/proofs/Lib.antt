pub mod sites
pub mod site_order
