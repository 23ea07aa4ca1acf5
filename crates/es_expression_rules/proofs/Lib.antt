mod OperatorLemmas
mod Absent
mod Same
