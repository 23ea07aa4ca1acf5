-- declarators
pub mod Declarators
-- what is written, by whatever the rules go
pub mod Steps
-- variables
pub mod Variables
