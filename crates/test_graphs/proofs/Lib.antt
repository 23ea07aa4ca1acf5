pub mod EndlessLemmas
