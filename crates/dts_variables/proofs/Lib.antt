pub mod TypeLemmas
pub mod RuleLemmas
pub mod NameLemmas
pub mod DeclaratorLemmas
pub mod ListLemmas
