pub mod FaultLemmas
pub mod SitesLemmas
