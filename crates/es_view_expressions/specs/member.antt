-- keys
pub mod Key
-- properties of objects
pub mod Prop
