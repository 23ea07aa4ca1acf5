-- several steps as one
pub mod StepLemmas
-- what holds of a part, where it is there
pub mod There
-- lists of parts
pub mod Lists
