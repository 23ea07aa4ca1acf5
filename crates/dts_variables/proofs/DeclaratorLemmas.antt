-- What declarators are, by their alternatives.
use Rattle.std.specs.Prelude.{ℕ, Bool, false, List, Option, Some, None, option_map}
use Rattle.std.proofs.Common.{◌≡◌, refl, sym, ap, subst, ◌∙◌}
use Rattle.base.specs.declared.range.Range.{Range}
use Rattle.es_token.specs.declared.token.Token.{Token}
use Rattle.es_grammar.specs.declared.rows.NodeKind.{NodeKind}
use Rattle.es_grammar.specs.declared.rows.NodeKind.TheVariants as l
use Rattle.es_ast.specs.declared.ast.Expr.{Expr}
use Rattle.es_ast.specs.declared.ast.Pat.{Pat}
use Rattle.es_lowering.specs.Value.{Value, nil, given, part, group, is_there, optional, expr_at, pat_at, behind}
use Rattle.es_lowering.specs.Texts.{span_of}
use Rattle.es_lowering.specs.Statements.{declarator, declarator_of}
use Rattle.es_lowering.specs.TypedParts.{marked_by}
use Rattle.es_lowering.specs.TypedStatements.{typed_declarator}
use Rattle.es_lowering.specs.Lowering.{build}
use Rattle.es_lowering.specs.Lowering as lowering
use Rattle.es_syntax.specs.declared.entry.What.{What}
use Rattle.es_syntax.specs.declared.entry.What.TheVariants as vWhat
use Rattle.es_syntax.specs.declared.cursor.Item.{Item}
use Rattle.es_syntax.specs.Held.{held, made, parts_of, valued}
use Rattle.es_syntax.specs.Roles.{declarator_in, expr_in, marked_in, pat_in}
use Rattle.es_view_statements.specs.param.Param.{Marked}
use Rattle.dts_rules.specs.Rules.{Env}
use Rattle.dts_draft.specs.declared.draft.Draft.{Draft}
use Rattle.dts_draft.specs.Written.{IfThere}
use Rattle.dts_parts.specs.Patterns.{Own}
use Rattle.dts_variables.specs.Declarators.{declarator_with, named_pattern, DeclaratorMade}

module _ (by : Env) (x : List ℕ) (ts : List Token) where
  -- ---- a pattern over its own tokens
  own_is : (i : Item) (ty : Value) → Own x ts i → ty ≡ nil
      → named_pattern ts (valued x ts i) ty ≡ pat_in (valued x ts i)
  own_is i ty own et =
      ap (named_pattern ts (valued x ts i)) et
      ∙ (ap (λ (n : ℕ). marked_by (marked_in (valued x ts i)) false None (span_of ts n (behind (valued x ts i))))
      own.from
      ∙ (ap (λ (n : ℕ). marked_by (marked_in (valued x ts i)) false None (span_of ts i.from n)) own.ends
      ∙ (go (marked_in (valued x ts i)) ∙ sym own.pairs)))
    where
      go : (k : Option Marked) → marked_by k false None (span_of ts i.from i.to)
          ≡ option_map (λ (m : Marked). m false None (span_of ts i.from i.to)) k
      go None = refl
      go (Some k) = refl

  pub own_made : (old new : Draft) (r : Range) (i : Item) (mark ty : Value) (value : Option (Option Expr))
      → Own x ts i → mark ≡ nil → ty ≡ nil
      → IfThere (DeclaratorMade x ts by old new)
      (declarator_with r (is_there mark) (named_pattern ts (valued x ts i) ty) value)
      → IfThere (DeclaratorMade x ts by old new) (declarator_with r false (pat_in (valued x ts i)) value)
  own_made old new r i mark ty value own em et h =
      subst (λ (o : Option Pat). IfThere (DeclaratorMade x ts by old new) (declarator_with r false o value))
      (own_is i ty own et)
      (subst (λ (b : Bool). IfThere (DeclaratorMade x ts by old new)
      (declarator_with r b (named_pattern ts (valued x ts i) ty) value)) (ap is_there em) h)

  -- ---- by parts
  pub assigned : (old new : Draft) (r : Range) (p v w : Value) → part p 0 ≡ v → part p 1 ≡ w
      → IfThere (DeclaratorMade x ts by old new)
      (declarator_with r false (pat_in v) (option_map Some (expr_in w)))
      → IfThere (DeclaratorMade x ts by old new) (declarator r p)
  unfolding declarator
  assigned old new r p v w ev ew h =
      go (pat_at p 0) (expr_at p 1)
      (subst (λ (w : Value). IfThere (DeclaratorMade x ts by old new)
      (declarator_with r false (pat_in (part p 0)) (option_map Some (expr_in w)))) (sym ew)
      (subst (λ (v : Value). IfThere (DeclaratorMade x ts by old new)
      (declarator_with r false (pat_in v) (option_map Some (expr_in w)))) (sym ev) h))
    where
      go : (o : Option Pat) (e : Option Expr)
          → IfThere (DeclaratorMade x ts by old new) (declarator_with r false o (option_map Some e))
          → IfThere (DeclaratorMade x ts by old new) (given o (λ pat. given e (λ value.
          Some (declarator_of r (Some value) pat))))
      go None e h = record { is = tt }
      go (Some p) None h = record { is = tt }
      go (Some p) (Some e) h = record { is = h.is }

  pub typed : (old new : Draft) (r : Range) (p v mark ty values : Value) (value : Option (Option Expr)) → part p 0 ≡ v
      → mark ≡ group p 1 → ty ≡ group p 2 → values ≡ group p 3 → optional expr_at values ≡ value
      → IfThere (DeclaratorMade x ts by old new)
      (declarator_with r (is_there mark) (named_pattern ts v ty) value)
      → IfThere (DeclaratorMade x ts by old new) (typed_declarator ts r p)
  unfolding typed_declarator
  typed old new r p v mark ty values value ev em et es eo h =
      subst (λ (v : Value). P v (group p 1) (group p 2) (optional expr_at (group p 3))) (sym ev)
      (subst (λ (m : Value). P v m (group p 2) (optional expr_at (group p 3))) em
      (subst (λ (t : Value). P v mark t (optional expr_at (group p 3))) et
      (subst (λ (o : Option (Option Expr)). P v mark ty o) (sym eo ∙ ap (optional expr_at) es) h)))
    where
      P : Value → Value → Value → Option (Option Expr) → Type 0
      P v m t o =
          IfThere (DeclaratorMade x ts by old new) (declarator_with r (is_there m) (named_pattern ts v t) o)

  -- ---- at its place
  abbrev At : Draft → Draft → What → Item → Type 0
  At old new w i =
      IfThere (DeclaratorMade x ts by old new) (declarator_in
      (made x ts w i.from i.to (held x ts i.parts.entries.now) (parts_of x ts i.parts.entries.now)))

  label_is : (i : Item) (label is : NodeKind) → i.what ≡ vWhat.Node label → label ≡ is → i.what ≡ vWhat.Node is
  label_is i label is e f = e ∙ ap (λ (label : NodeKind). vWhat.Node label) f

  pub assigned_there : (old new : Draft) (i : Item) (label : NodeKind) → i.what ≡ vWhat.Node label
      → label ≡ l.Declarator
      → IfThere (DeclaratorMade x ts by old new)
      (declarator (span_of ts i.from i.to) (held x ts i.parts.entries.now))
      → IfThere (DeclaratorMade x ts by old new) (declarator_in (valued x ts i))
  unfolding build lowering.declarator_of
  assigned_there old new i label e f h =
      subst (λ (w : What). At old new w i) (sym (label_is i label l.Declarator e f)) h

  pub typed_there : (old new : Draft) (i : Item) (label : NodeKind) → i.what ≡ vWhat.Node label
      → label ≡ l.TypedDeclarator
      → IfThere (DeclaratorMade x ts by old new)
      (typed_declarator ts (span_of ts i.from i.to) (held x ts i.parts.entries.now))
      → IfThere (DeclaratorMade x ts by old new) (declarator_in (valued x ts i))
  unfolding build lowering.declarator_of
  typed_there old new i label e f h =
      subst (λ (w : What). At old new w i) (sym (label_is i label l.TypedDeclarator e f)) h

  -- a pattern alone
  abbrev Alone : What → Item → Type 0
  Alone w i =
      declarator_in (made x ts w i.from i.to (held x ts i.parts.entries.now) (parts_of x ts i.parts.entries.now))
      ≡ option_map (declarator_of (span_of ts i.from i.to) None) (pat_in
      (made x ts w i.from i.to (held x ts i.parts.entries.now) (parts_of x ts i.parts.entries.now)))

  alone_by : (old new : Draft) (i : Item) → Alone i.what i
      → IfThere (DeclaratorMade x ts by old new)
      (declarator_with (span_of ts i.from i.to) false (pat_in (valued x ts i)) (Some None))
      → IfThere (DeclaratorMade x ts by old new) (declarator_in (valued x ts i))
  alone_by old new i e h =
      subst (λ o. IfThere (DeclaratorMade x ts by old new) o) (sym e) (go (pat_in (valued x ts i)) h)
    where
      go : (o : Option Pat)
          → IfThere (DeclaratorMade x ts by old new)
          (declarator_with (span_of ts i.from i.to) false o (Some None))
          → IfThere (DeclaratorMade x ts by old new)
          (option_map (declarator_of (span_of ts i.from i.to) None) o)
      go None h = record { is = tt }
      go (Some p) h = record { is = h.is }

  pub name_alone : (old new : Draft) (i : Item) (label : NodeKind) → i.what ≡ vWhat.Node label
      → label ≡ l.NamePattern
      → IfThere (DeclaratorMade x ts by old new)
      (declarator_with (span_of ts i.from i.to) false (pat_in (valued x ts i)) (Some None))
      → IfThere (DeclaratorMade x ts by old new) (declarator_in (valued x ts i))
  unfolding build lowering.declarator_of
  name_alone old new i label e f h =
      alone_by old new i
      (subst (λ (w : What). Alone w i) (sym (label_is i label l.NamePattern e f)) refl) h

  pub array_alone : (old new : Draft) (i : Item) (label : NodeKind) → i.what ≡ vWhat.Node label
      → label ≡ l.ArrayPattern
      → IfThere (DeclaratorMade x ts by old new)
      (declarator_with (span_of ts i.from i.to) false (pat_in (valued x ts i)) (Some None))
      → IfThere (DeclaratorMade x ts by old new) (declarator_in (valued x ts i))
  unfolding build lowering.declarator_of
  array_alone old new i label e f h =
      alone_by old new i
      (subst (λ (w : What). Alone w i) (sym (label_is i label l.ArrayPattern e f)) refl) h

  pub object_alone : (old new : Draft) (i : Item) (label : NodeKind) → i.what ≡ vWhat.Node label
      → label ≡ l.ObjectPattern
      → IfThere (DeclaratorMade x ts by old new)
      (declarator_with (span_of ts i.from i.to) false (pat_in (valued x ts i)) (Some None))
      → IfThere (DeclaratorMade x ts by old new) (declarator_in (valued x ts i))
  unfolding build lowering.declarator_of
  object_alone old new i label e f h =
      alone_by old new i
      (subst (λ (w : What). Alone w i) (sym (label_is i label l.ObjectPattern e f)) refl) h
