-- The code's reader answers as the reader of plain trees, where no path of the tree has too many nodes, and else
-- nothing.
use Rattle.std.specs.Prelude.{List, Bool}
use Rattle.std.proofs.Common.{◌≡◌, ℕ, refl}
use Rattle.grammar_theory.specs.declared.error.Lang.{Lang}
use Rattle.grammar_theory.specs.Key.{Key}
use Rattle.grammar_theory.specs.Plain.{Plain, plain}
use Rattle.grammar_theory.specs.Reader.{Out, read_row}
use Rattle.es_grammar.specs.declared.rows.Row.{Row}
use Rattle.es_grammar.specs.declared.rows.NodeKind.{NodeKind}
use Rattle.es_grammar.specs.Table.{rule}
use Rattle.es_grammar.specs.Conditions.{leans}
use Rattle.es_grammar.proofs.LeanClaims.{leans_told}
use Rattle.es_rules.specs.Bounded.{Read, row_at}
use Rattle.es_rules.proofs.LowLemmas.{labelled_same}
use Rattle.es_rules.proofs.LowLemmas as rows

-- an alternative by its own name
abbrev own_name : NodeKind → NodeKind
own_name l = l

-- a tree no path of which has too many nodes
abbrev pub is_low : Plain NodeKind → Bool
is_low p = rows.is_low own_name leans p

-- what is read of it
abbrev pub read_of : Plain NodeKind → Read
read_of p = rows.read_of own_name leans p

-- what the code's reader makes of an answer
abbrev pub low : Out (Plain NodeKind) → Out Read
low o = rows.low own_name leans o

-- a row
pub row_low : (l : Lang) (K : List Key) (room : ℕ) (r : Row) (at : ℕ)
    → row_at (rule l) K room r at ≡ low (read_row plain K (rule l) room r at)
row_low l K room r at =
    rows.row_low own_name leans (λ l. refl) (rule l) (rule l) (λ r. labelled_same (rule l r)) (leans_told l) K room r at
