pub mod LookupLemmas
mod Worked
