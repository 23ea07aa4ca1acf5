pub mod Words
pub mod Readable
pub mod Due
pub mod Run
pub mod Program
