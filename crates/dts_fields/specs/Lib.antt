-- fields
pub mod Fields
