-- forms of types
pub mod TypeForms
-- brackets and operators
pub mod ArrayLemmas
-- members
pub mod MemberLemmas
-- types
pub mod KeptLemmas
