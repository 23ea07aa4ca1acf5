-- members of classes
pub mod Member
