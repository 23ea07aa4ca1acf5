pub mod BundleLemmas
mod GraphLemmas
