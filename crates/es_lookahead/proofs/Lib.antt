pub mod TokenLemmas
pub mod PastLemmas
pub mod SemicolonLemmas
pub mod EndLemmas
