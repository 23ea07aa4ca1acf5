-- Bytes between quotes that stand for themselves.
use Rattle.std.specs.Prelude.{◌≡◌, ℕ, List, true}
use Rattle.std.specs.List.{AllByRecursion}
use Rattle.es_literal.specs.Strings.{is_plain}

-- each is neither `"`, `\` nor a byte that ends a line
abbrev pub AreBare : List ℕ → Type 0
AreBare bytes = AllByRecursion (λ b. is_plain 34 b ≡ true) bytes
