-- drafts of declarations
pub mod DraftLemmas
-- ranges of bodies of overloads
pub mod RangeLemmas
-- what is answered of a program
pub mod DeclareLemmas
-- what a transformer has found
pub mod TransformLemmas
