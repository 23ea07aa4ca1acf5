-- What declarations keep.
use Rattle.std.specs.Prelude.{ℕ, List}
use Rattle.es_token.specs.declared.token.Token.{Token}
use Rattle.es_changed.specs.declared.entry.ChangedEntry.{ChangedEntry}

pub record Kept : Type 0 where
  pub text : List ℕ
  pub tokens : List Token
  -- the numbers of names, by tokens
  pub numbers : List ℕ
  -- the changed row
  pub entries : List ChangedEntry
