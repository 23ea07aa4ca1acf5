-- what is seen of a token
pub mod Sight
-- tests and predicates by name
pub mod Named
-- where type arguments and type parameters end
pub mod Ends
