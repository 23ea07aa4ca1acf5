pub mod Bundle
