-- import attributes
pub mod Attributes
-- names that an import binds
pub mod Names
-- what an import binds
pub mod Clause
-- names in the braces of an import
pub mod ImportSpecifier
-- names in the braces of an export
pub mod ExportSpecifier
