-- what a printed program is
pub mod Printed
