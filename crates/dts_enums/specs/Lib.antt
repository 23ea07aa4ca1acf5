-- values of enums
pub mod Forms
-- enums
pub mod Enums
