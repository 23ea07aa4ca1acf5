pub mod specifier_table
pub mod pending_requests
