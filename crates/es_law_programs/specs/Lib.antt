pub mod both_modes
