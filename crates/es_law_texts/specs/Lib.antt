pub mod site_order
