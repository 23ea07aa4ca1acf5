-- what statements return
pub mod Statements
-- what functions return
pub mod Bodies
-- what keys name
pub mod Keys
-- what each form of a property is
pub mod Forms
