pub mod FormedLemmas
