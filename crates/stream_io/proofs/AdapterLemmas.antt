-- What a read that is made again consumes.
use Rattle.std.proofs.Common.{◌∙◌, ℕ, List, sym, Option, Some, None}
use Rattle.std.specs.Io.KnownBytes.{Keeps, Consumes}

pub consumes_kept : (a b c : Option (List ℕ)) (bs : List ℕ) → Keeps a b → Consumes b c bs → Consumes a c bs
consumes_kept None b c bs k h = tt
consumes_kept (Some x) None c bs k h = absurd k
consumes_kept (Some x) (Some y) None bs k h = absurd h
consumes_kept (Some x) (Some y) (Some z) bs k h = sym k ∙ h

pub keeps_on : (a b c : Option (List ℕ)) → Keeps a b → Keeps b c → Keeps a c
keeps_on None b c k h = tt
keeps_on (Some x) None c k h = absurd k
keeps_on (Some x) (Some y) None k h = absurd h
keeps_on (Some x) (Some y) (Some z) k h = h ∙ k
