pub mod Units
pub mod Lines
pub mod Templates
pub mod Numbers
pub mod RegExps
