pub mod ModuleText
