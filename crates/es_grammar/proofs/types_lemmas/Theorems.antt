-- The laws of the grammar.
use Rattle.std.specs.Prelude.{List, Bool}
use Rattle.std.proofs.Common.{◌≡◌, length}
use Rattle.grammar_theory.specs.Key.{Key}
use Rattle.grammar_theory.specs.Plain.{Plain, none_leans}
use Rattle.grammar_theory.specs.Fits.{free, chosen, Shape, most_nodes}
use Rattle.grammar_theory.proofs.Theorems as grammars
use Rattle.es_grammar.specs.declared.types.rows.TypeRow.TheVariants.{TypeRow}
use Rattle.es_grammar.specs.types.TypeRows.{NodeKind}
use Rattle.es_grammar.specs.types.TypeTable.{type_rule}
use Rattle.es_grammar.specs.types.Order.{StandsBetween}
use Rattle.es_grammar.proofs.types_lemmas.OrderLemmas.{row_stands}
use Rattle.es_grammar.proofs.types_lemmas.TypeClaims.{sets, types}

-- keys have at most one tree as a type
pub one_type : (c : Bool) (K : List Key) (p q : Plain NodeKind)
    → Shape none_leans free type_rule (TypeRow c) K p → Shape none_leans free type_rule (TypeRow c) K q → p ≡ q
one_type c = grammars.one_shape none_leans type_rule sets (TypeRow c) (types c)

-- no test of the table bars a reading of a type
pub free_type_is_chosen : (c : Bool) (K : List Key) (p : Plain NodeKind)
    → Shape none_leans free type_rule (TypeRow c) K p → Shape none_leans chosen type_rule (TypeRow c) K p
free_type_is_chosen c = grammars.free_is_chosen none_leans type_rule sets (TypeRow c) (types c)

pub chosen_type_is_free : (c : Bool) (K : List Key) (p : Plain NodeKind)
    → Shape none_leans chosen type_rule (TypeRow c) K p → Shape none_leans free type_rule (TypeRow c) K p
chosen_type_is_free c = grammars.chosen_is_free none_leans type_rule sets (TypeRow c) (types c)

-- the parts of a type stand in order, each within the range of the node that holds it
pub type_ordered : (c : Bool) (K : List Key) (p : Plain NodeKind) → Shape none_leans free type_rule (TypeRow c) K p
    → StandsBetween 0 (length K) p
unfolding Shape
type_ordered c K p shaped = row_stands free K type_rule most_nodes (TypeRow c) p 0 (length K) shaped.0
