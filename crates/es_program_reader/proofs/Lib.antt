mod LowLemmas
pub mod AnswerLemmas
mod FormedLemmas
mod Shapes
mod TypeShapes
mod RowShapes
mod Equations
mod RowLemmas
mod WrittenLemmas
pub mod SoundTheorems
mod KeptLemmas
