pub mod json_reading_lemmas
mod EntriesLemmas
mod TableLemmas
mod NamesLemmas
mod FrontsLemmas
