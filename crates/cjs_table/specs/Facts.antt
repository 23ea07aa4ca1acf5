-- The facts of a kept tree, in the order of the text, a node before its parts.
use Rattle.std.specs.Prelude.{ℕ, Bool, true, false, if◌then◌else◌, List, [], ◌∷◌, ◌++◌, map, Option, Some, None}
use Rattle.base.specs.declared.range.Range.{Range}
use Rattle.es_token.specs.declared.token.Token.{Token}
use Rattle.es_token.specs.declared.token.TokenKind.TheVariants as k
use Rattle.es_ast.specs.declared.ast.Expr.{Expr, out-Expr}
use Rattle.es_ast.specs.declared.ast.Pat.TheVariants as vPat
use Rattle.es_ast.specs.declared.ast.VarDeclarator.{VarDeclarator}
use Rattle.es_ast.specs.declared.ast.ClassMember.TheOpen.{Expr-F}
use Rattle.es_site.specs.Parts.{ExprParts}
use Rattle.es_grammar.specs.declared.rows.NodeKind.{NodeKind}
use Rattle.es_grammar.specs.declared.rows.NodeKind.TheVariants as l
use Rattle.es_grammar.specs.declared.cst.tree.Cst.{Cst}
use Rattle.es_grammar.specs.declared.cst.tree.Cst.TheOpen.{Cst-F}
use Rattle.es_grammar.specs.declared.cst.tree.Cst.TheFolds.{para-Cst}
use Rattle.es_lowering.specs.Value.{Value, given, part, group, turns, expr_at, pat_at, post_at}
use Rattle.es_lowering.specs.Operators.{is_kind_at}
use Rattle.es_lowering.specs.Expressions.{Post}
use Rattle.es_lowering.specs.Statements.{declarators_at}
use Rattle.es_lowering.specs.Texts.{span_of}
use Rattle.es_lowering.specs.Lowering.{value_of}
use Rattle.es_lowering.specs.Lowering as low
use Rattle.es_syntax.specs.declared.entry.Entry.{Entry}
use Rattle.es_syntax.specs.declared.cursor.Siblings.{Siblings}
use Rattle.es_syntax.specs.declared.cursor.Item.{Item}
use Rattle.es_syntax.specs.Places.{place_of}
use Rattle.es_syntax.specs.Trees.{trees}
use Rattle.es_walk.specs.Rows.{tree_at}
use Rattle.cjs_facts.specs.Facts.{Facts, Bound, Called, Assigned}
use Rattle.cjs_table.specs.declared.node.Act.{Act}
use Rattle.cjs_table.specs.declared.node.Act.TheVariants as act
use Rattle.cjs_table.specs.Plan.{plan}
use Rattle.cjs_table.specs.Met.{Told, both, Met, nil, more, token, node, packed, as_target, rows, met}

-- an expression that is a call but no `a?.()`
abbrev pub called_in : ExprParts → Facts
called_in (Expr-F.Call callee false type_args args span) = Called callee args ∷ []
called_in _ = []

-- the calls of a chain that begins at this byte, the last one first
abbrev pub chain_calls : ℕ → List Post → Expr → Facts
chain_calls start [] before = []
chain_calls start (post ∷ posts) before =
    chain_calls start posts (post start before) ++ called_in (out-Expr (post start before))

-- ---- the facts that a node is itself, by its parts
-- the declarators of `var`, `let` and `const`
abbrev pub bound_all : Option (List VarDeclarator) → Told
bound_all decls = given decls (λ decls. Some (map Bound decls))

abbrev pub bound_of : Value → Told
bound_of p = bound_all (declarators_at p 1)

abbrev pub chain_of : ℕ → Option Expr → Option Post → Option (List Post) → Told
chain_of start base first others =
    given base (λ base. given first (λ first. given others (λ others. Some (chain_calls start (first ∷ others) base))))

abbrev pub calls_of : ℕ → Value → Told
calls_of start p = chain_of start (expr_at p 0) (post_at p 1) (turns (λ turn. post_at turn 0) (group p 2))

abbrev pub assigned_of : Value → Told
assigned_of p =
    given (expr_at p 0) (λ left. given (expr_at p 2) (λ right. Some (Assigned (vPat.Expr left) right ∷ [])))

abbrev pub pattern_assigned_of : Value → Told
pattern_assigned_of p =
    given (pat_at p 0) (λ left. given (expr_at p 1) (λ right. Some (Assigned left right ∷ [])))

-- the facts that a node is itself, which begins at this byte
abbrev pub told_of : Act → ℕ → Value → Told
told_of act.Bound start p = bound_of p
told_of act.Calls start p = calls_of start p
told_of act.Assigned start p = assigned_of p
told_of act.PatternAssigned start p = pattern_assigned_of p

abbrev pub act_of : NodeKind → Option Act
act_of l.Variables = Some act.Bound
act_of l.Chain = Some act.Calls
act_of l.Assignment = Some act.Assigned
act_of l.PatternAssignment = Some act.PatternAssigned
act_of _ = None

module _ (ts : List Token) where
  -- the sign of an assignment, which stands behind its first part, is `=`
  abbrev pub is_equal_by : Option (ℕ × ℕ) → Bool
  is_equal_by (Some place) = is_kind_at ts k.Equal place.1
  is_equal_by None = false

  abbrev pub is_equal : Value → Bool
  is_equal p = is_equal_by (place_of (part p 0))

  -- by another sign than `=` an assignment has no facts, also in its parts
  abbrev pub has_facts : Act → Value → Bool
  has_facts act.Assigned p = is_equal p
  has_facts _ p = true

  abbrev pub own_by : Option Act → NodeKind → Range → Value → Met → Told
  own_by None label r p q = met q (rows (plan label))
  own_by (Some act) label r p q =
      if has_facts act p then both (told_of act r.start p) (met q (rows (plan label))) else Some []

  -- the facts of a node, by its alternative, its span and its parts
  abbrev pub own : NodeKind → Range → Value → Met → Told
  own label r p q = own_by (act_of label) label r p q

-- ---- trees
module _ (x : List ℕ) (ts : List Token) where
  abbrev pub Both : Type 0
  Both = Cst × Met

  abbrev pub values : List Both → Value
  values parts = low.packed (map (λ part. value_of x ts part.0) parts)

  abbrev pub all_met : List Both → Met
  all_met parts = packed (map (λ part. part.1) parts)

  abbrev pub met_step : Cst-F Both → Met
  met_step (Cst-F.Leaf at) = token
  met_step (Cst-F.Node label from to parts) = node (own ts label (span_of ts from to) (values parts) (all_met parts))
  met_step (Cst-F.Role label part) = as_target part.1
  met_step (Cst-F.Parts parts) = all_met parts

  unfoldable pub met_of : Cst → Met
  met_of = para-Cst Met met_step

  -- ---- rows of entries
  unfoldable pub row_met : List Entry → Met
  row_met es = packed (map met_of (trees es))

  abbrev pub item_met : Item → Met
  item_met item = met_of (tree_at item)

  abbrev pub split_met : Option (Item × Siblings) → Met
  split_met (Some p) = more (item_met p.0) (row_met p.1.entries.now)
  split_met None = nil
