pub mod ItemForms
pub mod ExportForms
pub mod ProgramForms
