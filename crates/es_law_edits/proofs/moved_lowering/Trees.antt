-- A plain tree over the tokens of a text is the same nodes over the moved tokens, moved.
use Rattle.std.specs.Prelude.{ℕ, List, [], ◌∷◌, Option, map}
use Rattle.std.proofs.Common.{◌≡◌, refl, sym, subst}
use Rattle.es_token.specs.declared.token.Token.{Token}
use Rattle.grammar_theory.specs.Plain.{Plain, node, leaf, nil, cons, mark, turn, via, made}
use Rattle.es_ast.specs.declared.ast.Expr.{Expr}
use Rattle.es_grammar.specs.declared.rows.NodeKind.{NodeKind}
use Rattle.es_grammar.specs.declared.cst.tree.Cst.{Cst}
use Rattle.es_grammar.specs.declared.cst.tree.Cst.TheVariants as vCst
use Rattle.es_grammar.specs.cst.Slim.{parts_in, slim, tree_of}
use Rattle.es_lowering.specs.Value.{Value}
use Rattle.es_lowering.specs.Lowering.{packed, as_target, target_of, value_of}
use Rattle.es_lowering.proofs.Equations.{value_leaf, value_node, value_role, value_parts}
use Rattle.es_law_edits.specs.moved.Move.{Move}
use Rattle.es_law_edits.specs.moved.Trees.{expr_to}
use Rattle.es_law_edits.proofs.moved.Rel.{By, Opt, none}
use Rattle.es_law_edits.proofs.moved.Patterns.{pat_Expr}
use Rattle.es_law_edits.proofs.moved_lowering.TypedMoves.{TypedMoves}
use Rattle.es_law_edits.proofs.moved_lowering.Frame.{Texts, Moves, map_moves}
use Rattle.es_law_edits.proofs.moved_lowering.Frame as frame
use Rattle.es_law_edits.proofs.moved_lowering.Leaves.{span_of_moves}
use Rattle.es_law_edits.proofs.moved_lowering.Lowering.{build_moves}

-- a simple target of an assignment
target_of_moves : {m : Move} (x y : List ℕ) (ts us : List Token) {o p : Option Expr} → Opt (By (expr_to m)) o p
    → TypedMoves m (target_of x ts o) (target_of y us p)
target_of_moves {m = m} x y ts us h = record {
  expr = none;
  pat = map_moves _ _ h (λ e e2 e_. pat_Expr m e_);
  stmt = none;
  decl = none;
  item = none;
  program = none;
  block = none;
  variables = none;
  declarator = none;
  head = map_moves _ _ h (λ e e2 e_. (none, pat_Expr m e_));
  param = none;
  params = none;
  pat_prop = none;
  prop = none;
  member = none;
  key = none;
  post = none;
  args = none;
  clause = none;
  names = none;
  import_specifier = none;
  export_specifier = none;
  attributes = none;
  entity = none;
  marked = none;
  signature = none;
  declarable = none;
  ts_type = none;
  reference = none;
  arguments = none;
  type_params = none;
  element = none;
  type_member = none;
  type_key = none;
  fn_params = none;
  fn_param = none;
  type_pat = none;
  type_name = none;
  type_prop = none;
}

as_target_moves : {m : Move} (x y : List ℕ) (ts us : List Token) {p q : Value} → Moves m p q
    → Moves m (as_target x ts p) (as_target y us q)
as_target_moves x y ts us frame.gone = frame.gone
as_target_moves x y ts us frame.over = frame.gone
as_target_moves x y ts us (frame.pair h i) = frame.gone
as_target_moves x y ts us (frame.leaf n) = frame.gone
as_target_moves x y ts us (frame.made from to h) = frame.made from to (target_of_moves x y ts us h.expr)

module _ {m : Move} {x y : List ℕ} {ts us : List Token} (told : Texts m x y ts us) where
  abbrev parts : Plain NodeKind → List Cst
  parts p = parts_in (made slim p)

  abbrev old_parts : List Cst → Value
  old_parts trees = packed (map (value_of x ts) trees)

  abbrev new_parts : List Cst → Value
  new_parts trees = packed (map (value_of y us) trees)

  TreeMoves : Plain NodeKind → Type 0
  TreeMoves p = Moves m (value_of x ts (tree_of p)) (value_of y us (tree_of p))
      × Moves m (old_parts (parts p)) (new_parts (parts p))

  by_forms : (p q r s : Value) → p ≡ q → r ≡ s → Moves m q s → Moves m p r
  by_forms p q r s e g h =
      let P : Value → Type 0 = λ k. Moves m k r in
      let Q : Value → Type 0 = λ k. Moves m q k in
      subst P (sym e) (subst Q (sym g) h)

  listed : (all : List Cst) → Moves m (old_parts all) (new_parts all)
      → Moves m (value_of x ts (vCst.Parts all)) (value_of y us (vCst.Parts all))
  listed all h = by_forms _ _ _ _ (value_parts x ts all) (value_parts y us all) h

  node_moves : (label : NodeKind) (first next : ℕ) (all : List Cst) → Moves m (old_parts all) (new_parts all)
      → Moves m (value_of x ts (vCst.Node label first next all)) (value_of y us (vCst.Node label first next all))
  node_moves label first next all h =
      by_forms _ _ _ _ (value_node x ts label first next all) (value_node y us label first next all)
      (frame.made first next (build_moves told label {from = first} refl
      (span_of_moves told {from = first} refl {to = next} refl) h))

  tree_moves : (p : Plain NodeKind) → TreeMoves p
  unfolding made TreeMoves
  tree_moves (node label first next ps) = (node_moves label first next (parts ps) (tree_moves ps).1, frame.over)
  tree_moves (leaf s n) = (by_forms _ _ _ _ (value_leaf x ts n) (value_leaf y us n) (frame.leaf n), frame.over)
  tree_moves nil = (listed [] frame.over, frame.over)
  tree_moves (cons p ps) =
      let all = frame.pair (tree_moves p).0 (tree_moves ps).1 in (listed (tree_of p ∷ parts ps) all, all)
  tree_moves (mark n ps) = tree_moves ps
  tree_moves (turn p ps) =
      let all = frame.pair (tree_moves p).0 (tree_moves ps).1 in (listed (tree_of p ∷ parts ps) all, all)
  tree_moves (via label p) = (
    by_forms _ _ _ _ (value_role x ts label (tree_of p)) (value_role y us label (tree_of p))
        (as_target_moves x y ts us (tree_moves p).0),
    frame.over,
  )

  -- what a plain tree is over the old tokens moves to what it is over the new ones
  pub value_moves : (p : Plain NodeKind) → Moves m (value_of x ts (tree_of p)) (value_of y us (tree_of p))
  unfolding TreeMoves
  value_moves p = (tree_moves p).0
