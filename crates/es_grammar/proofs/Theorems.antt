-- The laws of the grammar of programs, in both languages.
use Rattle.std.specs.Prelude.{ℕ, List}
use Rattle.std.proofs.Common.{◌≡◌, refl, length, subst}
use Rattle.es_token.specs.declared.token.Token.{Token}
use Rattle.grammar_theory.specs.declared.error.Lang.{Lang}
use Rattle.grammar_theory.specs.declared.error.Mode.{Mode}
use Rattle.grammar_theory.specs.declared.error.Mode.TheVariants as mode
use Rattle.grammar_theory.specs.Key.{Key, keys_of}
use Rattle.grammar_theory.specs.Plain.{Plain, Makes}
use Rattle.grammar_theory.specs.Fits.{free, chosen, Shape, most_nodes}
use Rattle.grammar_theory.specs.Reader.{read_row}
use Rattle.grammar_theory.proofs.Theorems.{IsGrammar}
use Rattle.grammar_theory.proofs.Theorems as grammars
use Rattle.es_grammar.specs.declared.types.rows.TypeRow.{TypeRow}
use Rattle.es_grammar.specs.types.TypeTable.{type_rule}
use Rattle.es_grammar.specs.types.Order.{StandsBetween}
use Rattle.es_grammar.proofs.types_lemmas.OrderLemmas.{row_stands}
use Rattle.es_grammar.specs.declared.rows.NodeKind.{NodeKind}
use Rattle.es_grammar.specs.declared.rows.Row.TheVariants.{TypesRow}
use Rattle.es_grammar.specs.TypeNames.{label_name}
use Rattle.es_grammar.specs.Table.{rule}
use Rattle.es_grammar.specs.Conditions.{IsProgram, leans, program_row}
use Rattle.es_grammar.proofs.Sets.{sets}
use Rattle.es_grammar.proofs.MappedLemmas.{renamed, row_same}
use Rattle.es_grammar.proofs.Claims.{modules, scripts}

-- the grammar of programs, by the language and the mode
pub programs : (l : Lang) (m : Mode) → IsGrammar (rule l) (sets l) (program_row m)
programs l mode.Module = modules l
programs l mode.Script = scripts l

-- no test of the table bars a reading: the trees that obey the tests are those of the grammar
pub free_is_chosen : (l : Lang) (m : Mode) (K : List Key) (p : Plain NodeKind)
    → Shape leans free (rule l) (program_row m) K p → Shape leans chosen (rule l) (program_row m) K p
free_is_chosen l m = grammars.free_is_chosen leans (rule l) (sets l) (program_row m) (programs l m)

pub chosen_is_free : (l : Lang) (m : Mode) (K : List Key) (p : Plain NodeKind)
    → Shape leans chosen (rule l) (program_row m) K p → Shape leans free (rule l) (program_row m) K p
chosen_is_free l m = grammars.chosen_is_free leans (rule l) (sets l) (program_row m) (programs l m)

-- keys have at most one tree in a language and a mode
pub one_program : (l : Lang) (m : Mode) (K : List Key) (p q : Plain NodeKind) → IsProgram l m K p → IsProgram l m K q
    → p ≡ q
one_program l m K p q one other =
    grammars.one_shape leans (rule l) (sets l) (program_row m) (programs l m) K p q one.shaped other.shaped

-- the parts of a program stand in order, each within the range of the node that holds it
pub program_ordered : (l : Lang) (m : Mode) (K : List Key) (p : Plain NodeKind) → IsProgram l m K p
    → StandsBetween 0 (length K) p
unfolding Shape
program_ordered l m K p program = row_stands free K (rule l) most_nodes (program_row m) p 0 (length K) program.shaped.0

-- a tree is a program by the keys of its tokens alone
pub program_by_keys : (l : Lang) (m : Mode) (xs ys : List Token) (p : Plain NodeKind) → keys_of xs ≡ keys_of ys
    → IsProgram l m (keys_of xs) p → IsProgram l m (keys_of ys) p
program_by_keys l m xs ys p same program = let P : List Key → Type 0 = λ K. IsProgram l m K p in subst P same program

-- a type in a program is read as in the table of types, whatever is made of it: a reader of types serves both
pub types_read : {Made : Type 0} (m : Makes NodeKind Made) (l : Lang) (K : List Key) (room : ℕ) (r : TypeRow) (at : ℕ)
    → read_row m K (rule l) room (TypesRow r) at ≡ read_row (renamed TypesRow label_name m K) K type_rule room r at
unfolding rule
types_read m l K = row_same TypesRow label_name m K (rule l) type_rule (λ r. refl)
