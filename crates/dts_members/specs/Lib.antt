-- the bodies of overloads
pub mod Overloads
-- members
pub mod Members
-- methods
pub mod Methods
-- classes
pub mod Classes
