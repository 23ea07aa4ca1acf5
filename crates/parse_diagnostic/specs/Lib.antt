pub mod Diagnosis
pub mod SameLaws
