pub mod expr
pub mod operator
pub mod call
pub mod function
pub mod pattern
pub mod member
