pub mod GroupLemmas
pub mod PatternLemmas
pub mod ParamLemmas
pub mod ListLemmas
pub mod FunctionLemmas
