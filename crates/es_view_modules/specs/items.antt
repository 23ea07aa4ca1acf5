-- imports
pub mod Import
-- exports
pub mod Export
-- programs
pub mod Program
