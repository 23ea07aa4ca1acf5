-- What is lent of a text that may be missing.
use Rattle.std.proofs.Common.{◌≡◌, ℕ, List, Option, Some, None, sym}
use Rattle.std.specs.Borrow.{Bor}
use Rattle.std.specs.Option.{MatchOption, option_copied}

pub copied_is : (r : Option (Bor (List ℕ))) (o : Option (List ℕ))
    → MatchOption r (o ≡ None) (λ t. o ≡ Some t.now) → option_copied r ≡ o
copied_is None o h = sym h
copied_is (Some t) o h = sym h
