-- what functions only return
pub mod Returns
-- what properties are
pub mod Properties
