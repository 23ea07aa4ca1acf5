-- What is read where some answers are kept, as where type arguments end behind a `<` that was read before.
use Rattle.std.specs.Prelude.{ℕ, zero, suc, Bool, List}
use Rattle.grammar_theory.specs.Key.{Key}
use Rattle.grammar_theory.specs.Fits.{most_nodes}
use Rattle.grammar_theory.specs.Reader.{Out, nothing, either}
use Rattle.es_grammar.specs.declared.types.rows.TypeRow.{TypeRow}
use Rattle.es_rules.specs.Bounded.{Read, rule_at, row_at}
use Rattle.es_type_rules.specs.ends.Derived.{named_rule}

-- a row, where so many may stand on a path: those in it whose answers are kept at their places are answered as they stand
-- there by themselves
unfoldable pub kept_at : List Key → (TypeRow → ℕ → Bool) → ℕ → TypeRow → ℕ → Out Read
kept_at K is_kept zero r at = nothing
kept_at K is_kept (suc room) r at =
    rule_at K
    (λ q mid. either (is_kept q mid) (row_at named_rule K most_nodes q mid) (kept_at K is_kept room q mid))
    (named_rule r) at

-- a row in one, where so many more may stand on a path
abbrev pub kept_or : List Key → (TypeRow → ℕ → Bool) → ℕ → TypeRow → ℕ → Out Read
kept_or K is_kept room r at = either (is_kept r at) (row_at named_rule K most_nodes r at) (kept_at K is_kept room r at)
