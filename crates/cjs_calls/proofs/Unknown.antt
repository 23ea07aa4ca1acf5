-- What no view knows is no pattern, no declarator and no arguments, or an expression in the place of a pattern. A part that
-- isn't there adds whatever is added.
use Rattle.std.specs.Prelude.{ℕ, false, List, Option, None, option_map}
use Rattle.std.proofs.Common.{◌≡◌, refl, sym, ap, subst, ◌∙◌}
use Rattle.base.specs.declared.range.Range.{Range}
use Rattle.es_token.specs.declared.token.Token.{Token}
use Rattle.es_ast.specs.declared.ast.Expr.{Expr}
use Rattle.es_ast.specs.declared.ast.Pat.{Pat}
use Rattle.es_ast.specs.declared.ast.Pat.TheVariants as vPat
use Rattle.es_ast.specs.declared.ast.VarDeclarator.{VarDeclarator}
use Rattle.es_grammar.specs.declared.rows.NodeKind.{NodeKind}
use Rattle.es_grammar.specs.declared.rows.NodeKind.TheVariants as l
use Rattle.es_lowering.specs.Value.{Value, absent, part}
use Rattle.es_lowering.specs.Statements.{declarator_of as declared_of}
use Rattle.es_lowering.specs.Lowering.{same_label, build, pat_of, marked_of, declarator_of}
use Rattle.es_syntax.specs.declared.entry.Entry.{Entry}
use Rattle.es_syntax.specs.declared.entry.Lean.{Lean}
use Rattle.es_syntax.specs.declared.entry.Lean.TheVariants as vLean
use Rattle.es_syntax.specs.declared.entry.What.{What}
use Rattle.es_syntax.specs.declared.entry.What.TheVariants as vWhat
use Rattle.es_syntax.specs.declared.cursor.Item.{Item}
use Rattle.es_syntax.specs.Held.{held, made, parts_of, valued, label_of}
use Rattle.es_syntax.specs.Roles.{expr_in, pat_in, marked_in, declarator_in}
use Rattle.es_syntax.specs.Views.{IsNone, is_one_of}
use Rattle.es_syntax.proofs.Others.{in_held, in_leant}
use Rattle.es_view_expressions.proofs.pattern_lemmas.Targets.{pat_target}
use Rattle.es_view_expressions.specs.pattern.Pat as view
use Rattle.es_view_expressions.specs.pattern.Pat.{patterns}
use Rattle.es_view_expressions.specs.pattern.Marked.{AMarked, marked_patterns}
use Rattle.es_view_statements.specs.decl.Declarator.{declarators}
use Rattle.es_bound_names.proofs.Others.{past, no_role}
use Rattle.cjs_facts.specs.declared.found.Found.{Found}
use Rattle.cjs_calls.specs.Assigns.{Assigns}
use Rattle.cjs_calls.specs.Binds.{Declares, Marks, Bounds}
use Rattle.cjs_calls.specs.Calls.{Makes}
use Rattle.cjs_calls.proofs.Binds.{target_bound}

-- ---- a part that isn't there
pub none_assigned : (left : Option Pat) (right : Option Expr) (old new : Found) → left ≡ None
    → Assigns left right old new
none_assigned left right old new e =
    subst (λ (o : Option Pat). Assigns o right old new) (sym e) (record { sets = tt })

pub pattern_none : (name : Option Pat) (value : Option (Option Expr)) (old new : Found) → name ≡ None
    → Declares name value old new
pattern_none name value old new e =
    subst (λ (o : Option Pat). Declares o value old new) (sym e) (record { binds = tt })

pub marked_none : (name : Option AMarked) (value : Option (Option Expr)) (old new : Found) → name ≡ None
    → Marks name value old new
marked_none name value old new e =
    subst (λ (o : Option AMarked). Marks o value old new) (sym e) (record { binds = tt })

pub declarator_none : (part : Option VarDeclarator) (old new : Found) → part ≡ None → Bounds part old new
declarator_none part old new e = subst (λ (o : Option VarDeclarator). Bounds o old new) (sym e) (record { binds = tt })

pub makes_none : (f : List Expr → Found → Found) (args : Option (List Expr)) (old new : Found) → args ≡ None
    → Makes f args old new
makes_none f args old new e = subst (λ (o : Option (List Expr)). Makes f o old new) (sym e) (record { makes = tt })

module _ (x : List ℕ) (ts : List Token) where
  -- ---- patterns
  no_pat : (label : NodeKind) (from : ℕ) (r : Range) (v : Value) → is_one_of patterns label ≡ false
      → pat_of x ts label from r v ≡ None
  unfolding pat_of
  no_pat label from r v e =
      past (same_label label l.NamePattern) _ _ _ e (λ e.
      past (same_label label l.ArrayPattern) _ _ _ e (λ e.
      past (same_label label l.ObjectPattern) _ _ _ e (λ e.
      past (same_label label l.RestPattern) _ _ _ e (λ e.
      past (same_label label l.DefaultPattern) _ _ _ e (λ e. refl)))))

  pat_node : (label : NodeKind) (from : ℕ) (r : Range) (v : Value) → is_one_of patterns label ≡ false
      → (build x ts label from r v).pat ≡ None
  unfolding build
  pat_node label from r v e = no_pat label from r v e

  leaning_pat : (lean : Lean) (from : ℕ) (r : Range) (v : Value) → (build x ts (label_of lean) from r v).pat ≡ None
  leaning_pat vLean.Binary from r v = pat_node l.Binary from r v refl
  leaning_pat vLean.TypedBinary from r v = pat_node l.TypedBinary from r v refl

  -- what stands at a place
  abbrev At : What → ℕ → ℕ → List Entry → Value
  At w from to es = made x ts w from to (held x ts es) (parts_of x ts es)

  lean_pat : (lean : Lean) (from to : ℕ) (es : List Entry) → pat_in (At (vWhat.Lean lean) from to es) ≡ None
  lean_pat lean from to es = in_leant x ts (λ m. m.pat) leaning_pat lean from (parts_of x ts es)

  parts_pat : (from to : ℕ) (es : List Entry) → pat_in (At vWhat.Parts from to es) ≡ None
  parts_pat from to es = in_held x ts (λ m. m.pat) es

  -- ---- assignments, by what the left side is
  module _ (i : Item) (right : Option Expr) (old new : Found) where
    abbrev Adds : What → Type 0
    Adds w = Assigns (pat_in (At w i.from i.to i.parts.entries.now)) right old new

    pub leaf_assigned : i.what ≡ vWhat.Leaf → Assigns (pat_in (valued x ts i)) right old new
    leaf_assigned e = subst Adds (sym e) (record { sets = tt })

    pub node_assigned : (label : NodeKind) → i.what ≡ vWhat.Node label → IsNone patterns i.what
        → Assigns (pat_in (valued x ts i)) right old new
    node_assigned label e none =
        subst Adds (sym e) (none_assigned _ right old new
        (pat_node label i.from _ (held x ts i.parts.entries.now)
        (subst (λ (w : What). IsNone patterns w) e none)))

    pub parts_assigned : i.what ≡ vWhat.Parts → Assigns (pat_in (valued x ts i)) right old new
    parts_assigned e =
        subst Adds (sym e) (none_assigned _ right old new (parts_pat i.from i.to i.parts.entries.now))

    pub lean_assigned : (lean : Lean) → i.what ≡ vWhat.Lean lean → Assigns (pat_in (valued x ts i)) right old new
    lean_assigned lean e =
        subst Adds (sym e) (none_assigned _ right old new (lean_pat lean i.from i.to i.parts.entries.now))

    pub role_absent : (label : NodeKind) → i.what ≡ vWhat.Role label
        → part (held x ts i.parts.entries.now) 0 ≡ absent → Assigns (pat_in (valued x ts i)) right old new
    role_absent label e is =
        subst Adds (sym e) (none_assigned _ right old new
        (pat_target x ts _ ∙ ap (λ (v : Value). option_map vPat.Expr (expr_in v)) is))

    pub role_assigned : (label : NodeKind) (v : Value) → i.what ≡ vWhat.Role label
        → part (held x ts i.parts.entries.now) 0 ≡ v → Assigns (option_map vPat.Expr (expr_in v)) right old new
        → Assigns (pat_in (valued x ts i)) right old new
    role_assigned label v e is adds =
        subst Adds (sym e) (subst (λ (o : Option Pat). Assigns o right old new)
        (sym (pat_target x ts _ ∙ ap (λ (v : Value). option_map vPat.Expr (expr_in v)) is)) adds)

  -- ---- declarators
  module _ (value : Option (Option Expr)) (old : Found) where
    role_bound : (e : Option Expr) → Declares (option_map vPat.Expr e) value old old
    unfolding view.target
    role_bound e = target_bound value old e

    pattern_here : (w : What) (from to : ℕ) (es : List Entry) → IsNone patterns w
        → Declares (pat_in (At w from to es)) value old old
    pattern_here vWhat.Leaf from to es e = record { binds = tt }
    pattern_here (vWhat.Node label) from to es e =
        pattern_none _ value old old (pat_node label from _ (held x ts es) e)
    pattern_here (vWhat.Role label) from to es e =
        subst (λ (o : Option Pat). Declares o value old old) (sym (pat_target x ts (part (held x ts es) 0)))
        (role_bound (expr_in (part (held x ts es) 0)))
    pattern_here vWhat.Parts from to es e = pattern_none _ value old old (parts_pat from to es)
    pattern_here (vWhat.Lean lean) from to es e = pattern_none _ value old old (lean_pat lean from to es)

    pub pattern_unknown : (i : Item) → IsNone patterns i.what → Declares (pat_in (valued x ts i)) value old old
    pattern_unknown i e = pattern_here i.what i.from i.to i.parts.entries.now e

    marked_node : (label : NodeKind) (from : ℕ) (r : Range) (v : Value) → is_one_of marked_patterns label ≡ false
        → (build x ts label from r v).marked ≡ None
    unfolding build marked_of
    marked_node label from r v e =
        past (same_label label l.NamePattern) _ _ _ e (λ e.
        past (same_label label l.ArrayPattern) _ _ _ e (λ e.
        past (same_label label l.ObjectPattern) _ _ _ e (λ e. refl)))

    pub marked_unknown : (i : Item) → IsNone marked_patterns i.what → Marks (marked_in (valued x ts i)) value old old
    marked_unknown i e =
        marked_none _ value old old
        (no_role x ts (λ m. m.marked) marked_patterns marked_node refl refl (λ e. refl) i.what i.from i.to
        i.parts.entries.now e)

  declarator_node : (label : NodeKind) (from : ℕ) (r : Range) (v : Value) → is_one_of declarators label ≡ false
      → (build x ts label from r v).declarator ≡ None
  unfolding build declarator_of
  declarator_node label from r v e =
      past (same_label label l.Declarator) _ _ _ e (λ e.
      past (same_label label l.TypedDeclarator) _ _ _ e (λ e.
      ap (option_map (declared_of r None)) (no_pat label from r v e)))

  pub declarator_unknown : (i : Item) (old : Found) → IsNone declarators i.what
      → Bounds (declarator_in (valued x ts i)) old old
  declarator_unknown i old e =
      declarator_none _ old old
      (no_role x ts (λ m. m.declarator) declarators declarator_node refl refl (λ e. refl) i.what i.from i.to
      i.parts.entries.now e)
