pub mod ghost_log_lemmas
pub mod specifier_table_lemmas
pub mod pending_requests_lemmas
