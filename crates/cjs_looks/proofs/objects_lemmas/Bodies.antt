-- What functions return, by their bodies.
use Rattle.std.specs.Prelude.{ℕ, Bool, true, false, List, Option, Some, None, option_map, if◌then◌else◌}
use Rattle.std.proofs.Common.{◌≡◌, refl, sym, ap, subst, ◌∙◌}
use denote.Enum.Bare.{same_true}
use Rattle.base.specs.declared.range.Range.{Range}
use Rattle.es_token.specs.declared.token.Token.{Token}
use Rattle.es_ast.specs.declared.ast.Expr.{Expr}
use Rattle.es_ast.specs.declared.ast.Stmt.{Stmt, out-Stmt, out-roll-Stmt}
use Rattle.es_ast.specs.declared.ast.Stmt.TheVariants as vStmt
use Rattle.es_ast.specs.declared.ast.ClassMember.TheOpen.{Stmt-F}
use Rattle.es_grammar.specs.contracts.rows.NodeKind.{the_type}
use Rattle.es_grammar.specs.declared.rows.NodeKind.{NodeKind}
use Rattle.es_grammar.specs.declared.rows.NodeKind.TheVariants as l
use Rattle.es_lowering.specs.Value.{Value, absent, nil, more, token, node, group, part}
use Rattle.es_lowering.specs.Texts.{span_of}
use Rattle.es_lowering.specs.Functions.{body_of, block_or}
use Rattle.es_lowering.specs.Statements as stmts
use Rattle.es_lowering.specs.TypedParts.{body_in}
use Rattle.es_lowering.specs.Lowering.{same_label, build, block_of, expr_of}
use Rattle.es_syntax.specs.declared.entry.Lean.{Lean}
use Rattle.es_syntax.specs.declared.entry.Lean.TheVariants as vLean
use Rattle.es_syntax.specs.declared.entry.What.{What}
use Rattle.es_syntax.specs.declared.entry.What.TheVariants as vWhat
use Rattle.es_syntax.specs.declared.entry.Entry.{Entry}
use Rattle.es_syntax.specs.declared.cursor.Item.{Item}
use Rattle.es_syntax.specs.Held.{held, valued, made, parts_of, label_of}
use Rattle.es_syntax.specs.Places.{place_of}
use Rattle.es_syntax.specs.Roles.{expr_in, stmt_in, block_in}
use Rattle.es_syntax.proofs.Others.{in_held, in_role, in_leant}
use Rattle.es_view_statements.specs.stmt.Stmt as view
use Rattle.cjs_facts.specs.Looks.{returned_by, returned_in}
use Rattle.cjs_looks.specs.objects.Returns.{Gives, body_returns}

pub by_block : (o : Option Stmt) (a : Option (Option Expr)) → Gives body_returns o a
    → Gives returned_by (option_map Some o) a
by_block None a told = record { gives = tt }
by_block (Some s) a told = record { gives = told.gives }

pub by_none : (v : Value) → v ≡ nil → Gives returned_by (body_in v) None
by_none v e = subst (λ (w : Value). Gives returned_by (body_in w) None) (sym e) (record { gives = refl })

pub by_some : (v u us : Value) (from to : ℕ) (a : Option (Option Expr)) → v ≡ more u us → place_of u ≡ Some (from, to)
    → Gives body_returns (stmt_in u) a → Gives returned_by (body_in v) a
by_some v u us from to a e place told =
    subst (λ (w : Value). Gives returned_by (body_in w) a) (sym e) (go u place told)
  where
    go : (u : Value) → place_of u ≡ Some (from, to) → Gives body_returns (stmt_in u) a
        → Gives returned_by (body_in (more u us)) a
    go (node m n it) place told = by_block it.stmt a told
    go absent place told = let bad : ⊥ = cc in absurd bad
    go nil place told = let bad : ⊥ = cc in absurd bad
    go (token n) place told = let bad : ⊥ = cc in absurd bad
    go (more w ws) place told = let bad : ⊥ = cc in absurd bad

pub by_no_node : (v u us : Value) → v ≡ more u us → place_of u ≡ None → Gives returned_by (body_in v) None
by_no_node v u us e place = subst (λ (w : Value). Gives returned_by (body_in w) None) (sym e) (go u place)
  where
    go : (u : Value) → place_of u ≡ None → Gives returned_by (body_in (more u us)) None
    go (node m n it) place = let bad : ⊥ = cc in absurd bad
    go absent place = record { gives = refl }
    go nil place = record { gives = refl }
    go (token n) place = record { gives = refl }
    go (more w ws) place = record { gives = refl }

-- ---- arrows
expr_returns : (r : Range) (o : Option Expr) → Gives returned_by (option_map Some (block_or r None o)) (Some o)
expr_returns r None = record { gives = tt }
expr_returns r (Some e) = record {
  gives = (
    ap returned_in (sym (ap out-Stmt (vStmt.rolls-Expr e r)) ∙ out-roll-Stmt (Stmt-F.Stmt::Expr e r)),
    refl,
  );
}

no_block : (ts : List Token) (v : Value) → block_in v ≡ None
    → Gives returned_by (option_map Some (body_of ts v)) (Some (expr_in v))
no_block ts absent e = record { gives = tt }
no_block ts nil e = record { gives = tt }
no_block ts (token n) e = record { gives = tt }
no_block ts (more v vs) e = record { gives = tt }
no_block ts (node from to m) e =
    subst (λ (o : Option (List Stmt)). Gives returned_by (option_map Some (block_or (span_of ts from to) o m.expr))
    (Some m.expr)) (sym e) (expr_returns (span_of ts from to) m.expr)

block_returns : (r : Range) (o : Option (List Stmt)) (a : Option (Option Expr))
    → Gives body_returns (option_map (λ all. vStmt.Block all r) o) a
    → Gives returned_by (option_map Some (block_or r o None)) a
block_returns r None a told = record { gives = tt }
block_returns r (Some all) a told = record { gives = told.gives }

module _ (x : List ℕ) (ts : List Token) where
  block_here : (from to : ℕ) (p : Value) (a : Option (Option Expr))
      → Gives body_returns (view.block (span_of ts from to) (group p 0)) a
      → Gives returned_by (option_map Some
      (block_or (span_of ts from to) (build x ts l.Block from (span_of ts from to) p).block
      (build x ts l.Block from (span_of ts from to) p).expr)) a
  unfolding build block_of expr_of view.block stmts.block
  block_here from to p a told = block_returns (span_of ts from to) (stmts.stmts_of (group p 0)) a told

  pub arrow_block : (i : Item) (label : NodeKind) (a : Option (Option Expr)) → i.what ≡ vWhat.Node label
      → same_label label l.Block ≡ true
      → ((r : Range) → Gives body_returns (view.block r (group (held x ts i.parts.entries.now) 0)) a)
      → Gives returned_by (option_map Some (body_of ts (valued x ts i))) a
  arrow_block i label a e is told =
      subst (λ (w : What). Gives returned_by (option_map Some (body_of ts (made x ts w i.from i.to
      (held x ts i.parts.entries.now) (parts_of x ts i.parts.entries.now)))) a) (sym e)
      (subst (λ (m : NodeKind). Gives returned_by (option_map Some (body_of ts (made x ts (vWhat.Node m) i.from i.to
      (held x ts i.parts.entries.now) (parts_of x ts i.parts.entries.now)))) a)
      (sym (same_true the_type tt label l.Block is))
      (block_here i.from i.to (held x ts i.parts.entries.now) a (told (span_of ts i.from i.to))))

  lean_none : (lean : Lean) (from : ℕ) (r : Range) (p : Value) → (build x ts (label_of lean) from r p).block ≡ None
  unfolding build block_of
  lean_none vLean.Binary from r p = refl
  lean_none vLean.TypedBinary from r p = refl

  -- no block is anything else
  abbrev pub IsNoBlock : What → Type 0
  IsNoBlock (vWhat.Node label) = same_label label l.Block ≡ false
  IsNoBlock _ = Unit {0}

  pub other_here : (w : What) (from to : ℕ) (es : List Entry) → IsNoBlock w
      → block_in (made x ts w from to (held x ts es) (parts_of x ts es)) ≡ None
  unfolding build block_of
  other_here vWhat.Leaf from to es e = refl
  other_here (vWhat.Node label) from to es e =
      ap (λ (b : Bool). if b then stmts.block (held x ts es) else None) e
  other_here (vWhat.Role label) from to es e = in_role x ts (λ m. m.block) (λ e. refl) (part (held x ts es) 0)
  other_here vWhat.Parts from to es e = in_held x ts (λ m. m.block) es
  other_here (vWhat.Lean lean) from to es e =
      in_leant x ts (λ m. m.block) lean_none lean from (parts_of x ts es)

  arrow_other : (i : Item) → IsNoBlock i.what
      → Gives returned_by (option_map Some (body_of ts (valued x ts i))) (Some (expr_in (valued x ts i)))
  arrow_other i e = no_block ts (valued x ts i) (other_here i.what i.from i.to i.parts.entries.now e)

  pub arrow_expr : (i : Item) (label : NodeKind) → i.what ≡ vWhat.Node label → same_label label l.Block ≡ false
      → Gives returned_by (option_map Some (body_of ts (valued x ts i))) (Some (expr_in (valued x ts i)))
  arrow_expr i label e is = arrow_other i (subst IsNoBlock (sym e) is)

  pub arrow_leaf : (i : Item) → i.what ≡ vWhat.Leaf
      → Gives returned_by (option_map Some (body_of ts (valued x ts i))) (Some (expr_in (valued x ts i)))
  arrow_leaf i e = arrow_other i (subst IsNoBlock (sym e) tt)

  pub arrow_role : (i : Item) (label : NodeKind) → i.what ≡ vWhat.Role label
      → Gives returned_by (option_map Some (body_of ts (valued x ts i))) (Some (expr_in (valued x ts i)))
  arrow_role i label e = arrow_other i (subst IsNoBlock (sym e) tt)

  pub arrow_parts : (i : Item) → i.what ≡ vWhat.Parts
      → Gives returned_by (option_map Some (body_of ts (valued x ts i))) (Some (expr_in (valued x ts i)))
  arrow_parts i e = arrow_other i (subst IsNoBlock (sym e) tt)

  pub arrow_lean : (i : Item) (lean : Lean) → i.what ≡ vWhat.Lean lean
      → Gives returned_by (option_map Some (body_of ts (valued x ts i))) (Some (expr_in (valued x ts i)))
  arrow_lean i lean e = arrow_other i (subst IsNoBlock (sym e) tt)
