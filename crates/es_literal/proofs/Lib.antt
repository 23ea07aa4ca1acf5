pub mod spelling_lemmas
pub mod literal_text_lemmas
pub mod UnitLemmas
pub mod StringLemmas
pub mod ValueLemmas
pub mod QuoteLemmas
