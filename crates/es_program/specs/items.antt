-- where items stand
pub mod Spans
-- what items tell
pub mod Told
-- what a node is as an item
pub mod Items
-- items that are lent
pub mod Lent
-- the first of the items that are to come
pub mod First
