-- what each form is, of its parts
pub mod Formed
-- what a changed row holds
pub mod Changed
-- what a writer leaves
pub mod Shape
