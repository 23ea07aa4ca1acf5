-- What the proofs rest on.
mod TextLemmas
mod AskingLemmas
mod RecordsLemmas
mod SessionLemmas
mod CallsLemmas
