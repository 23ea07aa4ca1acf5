-- declarations
pub mod Decl
-- declarations that may stand behind `declare`
pub mod Declarable
-- variables
pub mod Variables
-- declarators
pub mod Declarator
-- heads of loops
pub mod Head
