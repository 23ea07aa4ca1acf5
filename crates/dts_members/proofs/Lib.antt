-- whether a range is listed
pub mod OverloadLemmas
-- what is before bodies
pub mod HeadLemmas
-- methods
pub mod MethodLemmas
-- methods of JavaScript, by what is written of them
pub mod PlainLemmas
-- methods of TypeScript, by what is written of them
pub mod TypedLemmas
-- members
pub mod MemberLemmas
-- lists of members
pub mod TurnLemmas
-- classes
pub mod ClassLemmas
