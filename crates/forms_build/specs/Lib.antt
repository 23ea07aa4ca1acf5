pub mod Bundle
pub mod Resolver
pub mod Forms
