-- what is printed of each form beside its parts
pub mod Signs
-- the pieces of a changed row
pub mod Pieces
