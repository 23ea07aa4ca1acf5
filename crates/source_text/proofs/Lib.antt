pub mod module_text_lemmas
pub mod text_changes_lemmas
pub mod LinesLemmas
mod TextLemmas
pub mod Theorems
