pub mod ModuleTextLemmas
