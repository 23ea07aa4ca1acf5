-- The code's reader of types answers as the reader of plain trees, where no path of the tree has too many nodes, and
-- else nothing. What it makes has the names of the table of programs.
use Rattle.std.specs.Prelude.{List, Bool, true, ◌&&◌}
use Rattle.std.proofs.Common.{◌≡◌, ℕ, refl}
use Rattle.grammar_theory.specs.Key.{Key}
use Rattle.grammar_theory.specs.Productions.{Production, refuse, make, choose, as_, pick, wrap}
use Rattle.grammar_theory.specs.Plain.{Plain, plain, none_leans}
use Rattle.grammar_theory.specs.Checks.{leans_by_turns}
use Rattle.grammar_theory.specs.Reader.{Out, read_row}
use Rattle.es_grammar.specs.declared.types.rows.TypeRow.{TypeRow}
use Rattle.es_grammar.specs.types.TypeRows.{NodeKind}
use Rattle.es_grammar.specs.types.TypeTable.{type_rule}
use Rattle.es_grammar.specs.TypeNames.{label_name}
use Rattle.es_grammar.proofs.LeanClaims.{types_stand}
use Rattle.es_rules.specs.Bounded.{Read, row_at}
use Rattle.es_rules.proofs.LowLemmas as rows
use Rattle.es_type_rules.specs.ends.Derived.{named_rule}

-- a tree no path of which has too many nodes
abbrev pub is_low : Plain NodeKind → Bool
is_low p = rows.is_low label_name none_leans p

-- what is read of it
abbrev pub read_of : Plain NodeKind → Read
read_of p = rows.read_of label_name none_leans p

-- what the code's reader makes of an answer
abbrev pub low : Out (Plain NodeKind) → Out Read
low o = rows.low label_name none_leans o

both_true : (x y : Bool) → x ≡ true → y ≡ true → x && y ≡ true
both_true x y e h = rw (e, h) refl

-- no node leans
pub none_lean : {Row : Type 0} (a : Production Row NodeKind) → leans_by_turns none_leans a ≡ true
none_lean refuse = refl
none_lean (make l f) = refl
none_lean (choose t a b) =
    both_true (leans_by_turns none_leans a) (leans_by_turns none_leans b) (none_lean a) (none_lean b)
none_lean (as_ w a) = none_lean a
none_lean (pick g a b) =
    both_true (leans_by_turns none_leans a) (leans_by_turns none_leans b) (none_lean a) (none_lean b)
none_lean (wrap l a c f) = none_lean a

-- a row
pub row_low : (K : List Key) (room : ℕ) (r : TypeRow) (at : ℕ)
    → row_at named_rule K room r at ≡ low (read_row plain K type_rule room r at)
row_low K room r at =
    rows.row_low label_name none_leans types_stand named_rule type_rule (λ r. refl) (λ r. none_lean (type_rule r)) K room
    r at
