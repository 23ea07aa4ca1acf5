-- places in modules
pub mod Places
-- what couldn't be determined
pub mod Diagnostics
-- what declarations keep, and what they are
pub mod Kept
pub mod Declarations
-- what a draft of declarations holds
pub mod Drafted
-- what a transformer knows and has done
pub mod Transformed
