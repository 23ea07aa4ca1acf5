-- what holds of each value of a form
pub mod Given
-- the range of each form of expression
pub mod Spans
-- by forms, of any claim
pub mod Forms
-- further parts of chains, of any claim
pub mod PostForms
-- nodes that lean left, of any claim
pub mod LeanForms
-- all alternatives, of any claim
pub mod All
pub mod Nodes
pub mod TokenSpans
pub mod Posts
pub mod Chains
pub mod Leans
