pub mod Vendored
