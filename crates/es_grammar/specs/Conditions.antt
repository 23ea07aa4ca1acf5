-- What is asked of a tree besides the rows: what is assigned to, or updated, is a simple target (ECMA-262,
-- "AssignmentTargetType").
use Rattle.std.specs.Prelude.{Bool, true, false, ◌≡◌, ◌&&◌, List}
use Rattle.grammar_theory.specs.declared.error.Lang.{Lang}
use Rattle.grammar_theory.specs.declared.error.Mode.{Mode}
use Rattle.grammar_theory.specs.declared.error.Mode.TheVariants as mode
use Rattle.grammar_theory.specs.Key.{Key}
use Rattle.grammar_theory.specs.Plain.{Plain, node, nil, cons, mark, turn, via}
use Rattle.grammar_theory.specs.Fits.{free, Shape}
use Rattle.es_grammar.specs.declared.rows.NodeKind.TheVariants.{Assignment, Binary, Chain, IndexPost, MemberPost, Name, NonNullPost, Parenthesized, TypeAssertion, TypedBinary, UpdatePostfix, UpdatePrefix}
use Rattle.es_grammar.specs.declared.rows.Row.{Row}
use Rattle.es_grammar.specs.declared.rows.NodeKind.{NodeKind}
use Rattle.es_grammar.specs.declared.rows.Row.TheVariants.{ModuleRow, ScriptRow}
use Rattle.es_grammar.specs.Table.{rule}

-- `.a` or `[a]`
abbrev pub is_member : Plain NodeKind → Bool
is_member (node MemberPost from to ps) = true
is_member (node IndexPost from to ps) = true
is_member _ = false

-- what a `!` behind a part leaves of the answer: that of the parts before it
abbrev pub unless_non_null : Plain NodeKind → Bool → Bool
unless_non_null (node NonNullPost from to ps) before = before
unless_non_null p before = is_member p

-- the parts of a chain, behind any `!`, end in `.a` or `[a]`; with none but `!`, the answer is that of its base
abbrev pub ends_in_member : Bool → Plain NodeKind → Plain NodeKind → Bool
ends_in_member before p (turn (cons q ps) rest) = ends_in_member (unless_non_null p before) q rest
ends_in_member before p _ = unless_non_null p before

-- the parts of a turn are `as const`, or `as` or `satisfies` with a type: a group of its own stands behind the word,
-- and behind any other operator an operand
abbrev pub is_assertion : Plain NodeKind → Bool
is_assertion (cons operator (cons (cons q ps) rest)) = true
is_assertion _ = false

-- a simple target: a name, a chain that ends in a member, or such a one in brackets, before `!`, `as` or `satisfies`,
-- or behind the type that it is asserted to have
abbrev pub is_simple : Plain NodeKind → Bool
is_simple (node Name from to ps) = true
is_simple (node Parenthesized from to (mark n (cons q ps))) = is_simple q
is_simple (node Chain from to (cons q (cons p (cons more ps)))) = ends_in_member (is_simple q) p more
is_simple (node TypedBinary from to (cons q (cons assertion nil))) = is_assertion assertion && is_simple q
is_simple (node TypeAssertion from to (mark n (cons asserted (mark m (cons q ps))))) = is_simple q
is_simple _ = false

-- the parts of a node are those that its alternative may have
abbrev pub may_hold : NodeKind → Plain NodeKind → Bool
may_hold Assignment (cons q ps) = is_simple q
may_hold UpdatePostfix (cons q ps) = is_simple q
may_hold UpdatePrefix (cons operator (cons q ps)) = is_simple q
may_hold _ ps = true

-- each node of the tree holds what it may, and each target is simple
abbrev pub is_sound : Plain NodeKind → Bool
is_sound (node l from to ps) = may_hold l ps && is_sound ps
is_sound (via w p) = is_simple p && is_sound p
is_sound (cons p ps) = is_sound p && is_sound ps
is_sound (turn p ps) = is_sound p && is_sound ps
is_sound (mark n ps) = is_sound ps
is_sound _ = true

-- the alternatives of operators behind whose first operand turns stand: it stands as deep as the operator
abbrev pub leans : NodeKind → Bool
leans Binary = true
leans TypedBinary = true
leans _ = false

-- the row of a program
abbrev pub program_row : Mode → Row
program_row mode.Module = ModuleRow
program_row mode.Script = ScriptRow

-- a plain tree of a program, by its keys
pub record IsProgram (l : Lang) (m : Mode) (K : List Key) (p : Plain NodeKind) : Type 0 where
  pub shaped : Shape leans free (rule l) (program_row m) K p
  pub sound : is_sound p ≡ true
