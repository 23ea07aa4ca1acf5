-- what each alternative shows
pub mod Forms
-- literals, names, `new`
pub mod LeafLemmas
-- `as`, `satisfies`
pub mod SourceLemmas
-- `Object.freeze`
pub mod CalleeLemmas
