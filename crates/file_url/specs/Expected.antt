-- How an answer stands to the expected one.
use Rattle.std.specs.Prelude.{◌≡◌, ◌⊎◌, Result, Ok, Err, MatchResult}

-- the answer is the expected one, unless memory runs out, which is this error
abbrev pub IsExpected : {T E : Type 0} → E → Result T E → Result T E → Type 0
IsExpected no_memory answer expected =
    MatchResult answer (λ x. expected ≡ Ok x) (λ e. (expected ≡ Err e) ⊎ (e ≡ no_memory))
