-- A source and a sink in memory, as clauses see them. Calls are numbered from 0, up to 2^64 - 1, which the later ones share.
use Rattle.std.specs.Prelude.{ℕ, ◌+◌, ◌-◌, ◌^◌, ◌==◌, min, List, Bool}
use Rattle.std.specs.List.{list_any}

-- the bytes left, the most bytes a read gives, the next call's number, the calls that fail, and the count of failures
pub record GivenBytes : Type 0 where
  pub left : List ℕ
  pub piece : ℕ
  pub next : ℕ
  pub failing : List ℕ
  pub faults : ℕ

-- the bytes taken, the most bytes in all, the most bytes a write takes, and the rest as above
pub record TakenBytes : Type 0 where
  pub taken : List ℕ
  pub room : ℕ
  pub piece : ℕ
  pub next : ℕ
  pub failing : List ℕ
  pub faults : ℕ

-- the call of this number is listed
abbrev pub is_listed : ℕ → List ℕ → Bool
is_listed call failing = list_any (λ n. n == call) failing

-- the number of the call after this one
abbrev pub next_call : ℕ → ℕ
next_call call = min (call + 1) (2 ^ 64 - 1)
