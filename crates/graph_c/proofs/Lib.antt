pub mod AnswerLemmas
pub mod FindingLemmas
pub mod ExportLemmas
mod DeclarationLemmas
mod RewriteLemmas
mod GraphLemmas
mod HandleSteps
