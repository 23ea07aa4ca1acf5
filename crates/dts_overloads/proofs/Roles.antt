-- The parts of a node, in each role.
use Rattle.std.specs.Prelude.{ℕ, Bool, [], ◌∷◌, Option}
use Rattle.std.proofs.Common.{refl, ◌∙◌}
use Rattle.base.specs.declared.range.Range.{Range}
use Rattle.es_ast.specs.declared.ts.ts.TsPart.{TsPart}
use Rattle.es_ast.specs.declared.ast.Decl.{Decl}
use Rattle.es_ast.specs.declared.ast.Pat.{Pat}
use Rattle.es_lowering.specs.Value.{Value, part, group, optional, turns, expr_at, pat_at, stmt_at, decl_at, item_at, block_at, variables_at, declarator_at, head_at, param_at, params_at, pat_prop_at, prop_at, member_at, key_at, args_at, marked_at, signature_at, declarable_at}
use Rattle.dts_overloads.specs.Among.{none, ◌∪◌, all_of, if_some, of_class_member, of_decl, of_expr, of_module_item, of_object_pat_prop, of_param, of_pat, of_prop, of_stmt, of_stmts, of_var_declarator}
use Rattle.dts_overloads.specs.declared.shapes.Shape.TheVariants as sh
use Rattle.dts_overloads.specs.Met.{Met, one, rows, each, met}
use Rattle.dts_overloads.proofs.Seen.{Sees, both_none, moved}
use Rattle.dts_overloads.proofs.Agrees.{variables_among, head_among, key_among, params_among, Agree, nth, parts_in, rows_are, in_role, in_group, in_nodes}

-- ---- parts in a row
abbrev pub AgreeRow : Value → Met → Type 0
AgreeRow p q = (n : ℕ) → Agree (part p n) (nth q n)

module _ (p : Value) (q : Met) (a : AgreeRow p q) (n : ℕ) where
  pub inside : AgreeRow (group p n) (nth q n)
  inside m = parts_in (part p n) (nth q n) (a n) m

  -- nodes
  pub expr : Sees of_expr (expr_at p n) (met (nth q n) one)
  expr = in_role of_expr (λ m. m.expr) (λ m t s. s.expr) (part p n) (nth q n) (a n)

  pub pat : Sees of_pat (pat_at p n) (met (nth q n) one)
  pat = in_role of_pat (λ m. m.pat) (λ m t s. s.pat) (part p n) (nth q n) (a n)

  pub stmt : Sees of_stmt (stmt_at p n) (met (nth q n) one)
  stmt = in_role of_stmt (λ m. m.stmt) (λ m t s. s.stmt) (part p n) (nth q n) (a n)

  pub decl : Sees of_decl (decl_at p n) (met (nth q n) one)
  decl = in_role of_decl (λ m. m.decl) (λ m t s. s.decl) (part p n) (nth q n) (a n)

  pub block : Sees of_stmts (block_at p n) (met (nth q n) one)
  block = in_role of_stmts (λ m. m.block) (λ m t s. s.block) (part p n) (nth q n) (a n)

  pub variables : Sees variables_among (variables_at p n) (met (nth q n) one)
  variables = in_role variables_among (λ m. m.variables) (λ m t s. s.variables) (part p n) (nth q n) (a n)

  pub declarator : Sees of_var_declarator (declarator_at p n) (met (nth q n) one)
  declarator =
      in_role of_var_declarator (λ m. m.declarator) (λ m t s. s.declarator) (part p n) (nth q n) (a n)

  pub head : Sees head_among (head_at p n) (met (nth q n) one)
  head = in_role head_among (λ m. m.head) (λ m t s. s.head) (part p n) (nth q n) (a n)

  pub params : Sees (all_of of_param) (params_at p n) (met (nth q n) one)
  params = in_role (all_of of_param) (λ m. m.params) (λ m t s. s.params) (part p n) (nth q n) (a n)

  pub key : Sees key_among (key_at p n) (met (nth q n) one)
  key = in_role key_among (λ m. m.key) (λ m t s. s.key) (part p n) (nth q n) (a n)

  pub args : Sees (all_of of_expr) (args_at p n) (met (nth q n) one)
  args = in_role (all_of of_expr) (λ m. m.args) (λ m t s. s.args) (part p n) (nth q n) (a n)

  pub signature : Sees params_among (signature_at p n) (met (nth q n) one)
  signature = in_role params_among (λ m. m.signature) (λ m t s. s.signature) (part p n) (nth q n) (a n)

  pub marked : (mark : Bool) (ty : Option TsPart) (r : Range)
      → Sees (λ (pat : Bool → Option TsPart → Range → Pat). of_pat (pat mark ty r)) (marked_at p n)
      (met (nth q n) one)
  marked mark ty r =
      in_role (λ (pat : Bool → Option TsPart → Range → Pat). of_pat (pat mark ty r)) (λ m. m.marked)
      (λ m t s. s.marked mark ty r) (part p n) (nth q n) (a n)

  pub declarable : (declare : Bool) (r : Range)
      → Sees (λ (decl : Bool → Range → Decl). of_decl (decl declare r)) (declarable_at p n) (met (nth q n) one)
  declarable declare r =
      in_role (λ (decl : Bool → Range → Decl). of_decl (decl declare r)) (λ m. m.declarable)
      (λ m t s. s.declarable declare r) (part p n) (nth q n) (a n)

  -- nodes that may be absent
  pub maybe_expr : Sees (if_some of_expr) (optional expr_at (group p n)) (met (nth q n) (rows (sh.Node ∷ [])))
  maybe_expr = in_group of_expr (λ m. m.expr) (λ m t s. s.expr) (part p n) (nth q n) (a n)

  pub maybe_pat : Sees (if_some of_pat) (optional pat_at (group p n)) (met (nth q n) (rows (sh.Node ∷ [])))
  maybe_pat = in_group of_pat (λ m. m.pat) (λ m t s. s.pat) (part p n) (nth q n) (a n)

  pub maybe_stmt : Sees (if_some of_stmt) (optional stmt_at (group p n)) (met (nth q n) (rows (sh.Node ∷ [])))
  maybe_stmt = in_group of_stmt (λ m. m.stmt) (λ m t s. s.stmt) (part p n) (nth q n) (a n)

  pub maybe_args : Sees (if_some (all_of of_expr)) (optional args_at (group p n))
      (met (nth q n) (rows (sh.Node ∷ [])))
  maybe_args = in_group (all_of of_expr) (λ m. m.args) (λ m t s. s.args) (part p n) (nth q n) (a n)

  -- lists of nodes
  pub exprs : Sees (all_of of_expr) (turns (λ turn. expr_at turn 0) (group p n))
      (met (nth q n) (each (sh.Node ∷ [])))
  exprs = in_nodes of_expr (λ m. m.expr) (λ m t s. s.expr) (part p n) (nth q n) (a n)

  pub stmts : Sees (all_of of_stmt) (turns (λ turn. stmt_at turn 0) (group p n))
      (met (nth q n) (each (sh.Node ∷ [])))
  stmts = in_nodes of_stmt (λ m. m.stmt) (λ m t s. s.stmt) (part p n) (nth q n) (a n)

  pub items : Sees (all_of of_module_item) (turns (λ turn. item_at turn 0) (group p n))
      (met (nth q n) (each (sh.Node ∷ [])))
  items = in_nodes of_module_item (λ m. m.item) (λ m t s. s.item) (part p n) (nth q n) (a n)

  pub props : Sees (all_of of_prop) (turns (λ turn. prop_at turn 0) (group p n))
      (met (nth q n) (each (sh.Node ∷ [])))
  props = in_nodes of_prop (λ m. m.prop) (λ m t s. s.prop) (part p n) (nth q n) (a n)

  pub pat_props : Sees (all_of of_object_pat_prop) (turns (λ turn. pat_prop_at turn 0) (group p n))
      (met (nth q n) (each (sh.Node ∷ [])))
  pat_props = in_nodes of_object_pat_prop (λ m. m.pat_prop) (λ m t s. s.pat_prop) (part p n) (nth q n) (a n)

  pub members : Sees (all_of of_class_member) (turns (λ turn. member_at turn 0) (group p n))
      (met (nth q n) (each (sh.Node ∷ [])))
  members = in_nodes of_class_member (λ m. m.member) (λ m t s. s.member) (part p n) (nth q n) (a n)

  pub all_params : Sees (all_of of_param) (turns (λ turn. param_at turn 0) (group p n))
      (met (nth q n) (each (sh.Node ∷ [])))
  all_params = in_nodes of_param (λ m. m.param) (λ m t s. s.param) (part p n) (nth q n) (a n)

  pub declarators : Sees (all_of of_var_declarator) (turns (λ turn. declarator_at turn 0) (group p n))
      (met (nth q n) (each (sh.Node ∷ [])))
  declarators =
      in_nodes of_var_declarator (λ m. m.declarator) (λ m t s. s.declarator) (part p n) (nth q n) (a n)

-- the second part
pub second : (p : Value) (q : Met) → AgreeRow p q
    → Sees of_expr (expr_at p 1) (met q (rows (sh.Skip ∷ sh.Node ∷ [])))
second p q a =
    moved of_expr (expr_at p 1) (met q (rows (sh.Skip ∷ sh.Node ∷ []))) (met (nth q 1) one)
    (rows_are (sh.Skip ∷ sh.Node ∷ []) refl q ∙ both_none (met (nth q 1) one)) (expr p q a 1)
