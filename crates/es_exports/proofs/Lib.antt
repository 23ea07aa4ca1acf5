-- names and strings
pub mod TokenForms
-- items
pub mod Items
-- exports
pub mod ExportForms
-- exports of all names of a module
pub mod ReexportForms
-- names in braces that no view knows
pub mod Specifiers
-- the items of a program that is lent
pub mod Bodies
