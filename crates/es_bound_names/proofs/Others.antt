-- An item that a view doesn't know is in no such role: it adds nothing that a promise speaks of. A target that is no
-- pattern binds no name.
use Rattle.std.specs.Prelude.{ℕ, Bool, true, false, List, [], ◌∷◌, Option, Some, None, option_map, if◌then◌else◌}
use Rattle.std.proofs.Common.{◌≡◌, refl, sym, ap, subst, ◌∙◌}
use Rattle.base.specs.declared.range.Range.{Range}
use Rattle.es_token.specs.declared.token.Token.{Token}
use Rattle.es_ast.specs.declared.ast.Decl.{Decl}
use Rattle.es_ast.specs.declared.ast.Expr.{Expr}
use Rattle.es_ast.specs.declared.ast.ObjectPatProp.{ObjectPatProp}
use Rattle.es_ast.specs.declared.ast.Pat.{Pat}
use Rattle.es_ast.specs.declared.ast.VarDeclarator.{VarDeclarator}
use Rattle.es_ast.specs.declared.ts.leaf.TsEntityName.{TsEntityName}
use Rattle.es_ast.specs.declared.ts.ts.TsPart.{TsPart}
use Rattle.es_grammar.specs.declared.rows.NodeKind.{NodeKind}
use Rattle.es_grammar.specs.declared.rows.NodeKind.TheVariants as l
use Rattle.es_lowering.specs.Value.{Value, Typed, absent, nil, more, token, node, given, part, typed, as_group}
use Rattle.es_lowering.specs.Texts.{ident_of, token_of, own_name_of}
use Rattle.es_lowering.specs.Statements.{Variables, declarator_of}
use Rattle.es_lowering.specs.TypedStatements.{Declarable}
use Rattle.es_lowering.specs.Lowering as low
use Rattle.es_lowering.specs.Lowering.{same_label, build, as_target, target_of}
use Rattle.es_syntax.specs.declared.entry.Entry.{Entry}
use Rattle.es_syntax.specs.declared.entry.Lean.{Lean}
use Rattle.es_syntax.specs.declared.entry.Lean.TheVariants as vLean
use Rattle.es_syntax.specs.declared.entry.What.{What}
use Rattle.es_syntax.specs.declared.entry.What.TheVariants as vWhat
use Rattle.es_syntax.specs.declared.cursor.Item.{Item}
use Rattle.es_syntax.specs.Held.{Held, held, made, parts_of, valued, leant, label_of}
use Rattle.es_syntax.specs.Roles.{pat_in, marked_in, pat_prop_in, declarator_in, variables_in, declarable_in, decl_in, entity_in}
use Rattle.es_syntax.specs.Views.{IsNone, is_one_of}
use Rattle.es_syntax.proofs.Others.{in_held, in_role, in_leant}
use Rattle.es_syntax.proofs.Rows.{token_role, group_role, token_leant, group_leant}
use Rattle.es_view_expressions.specs.pattern.Pat as view
use Rattle.es_view_expressions.specs.pattern.Pat.{patterns}
use Rattle.es_view_expressions.specs.pattern.Marked.{marked_patterns, AMarked}
use Rattle.es_view_expressions.specs.pattern.PatProp.{pattern_props}
use Rattle.es_view_statements.specs.decl.Declarator.{declarators}
use Rattle.es_view_statements.specs.decl.Variables.{variable_labels}
use Rattle.es_view_statements.specs.decl.Declarable.{declarables}
use Rattle.es_view_statements.specs.decl.Decl.{declarations}
use Rattle.es_view_types.specs.names.Entity.{entities}
use Rattle.es_bound_names.specs.Names.{Names, own_names, bound_names, prop_names, declarator_names, variables_names, declared_names, entity_names}
use Rattle.es_bound_names.specs.Adds.{Adds}
use Rattle.es_bound_names.proofs.Forms.{adds_target}
use Rattle.es_bound_names.proofs.Heads.{nothing}
use Rattle.es_bound_names.proofs.Lists.{adds_nothing}

-- ---- none of a row of alternatives
pub past : {A : Type 0} (b others : Bool) (o e : Option A) → (if b then true else others) ≡ false
    → (others ≡ false → e ≡ None) → (if b then o else e) ≡ None
past true others o e h rest = let bad : ⊥ = cc in absurd bad
past false others o e h rest = rest h

-- ---- what an item that is no node of these alternatives is in a role
module _ (x : List ℕ) (ts : List Token) where
  module _ {A : Type 0} (f : Typed → Option A) (labels : List NodeKind) where
    -- a node of no such alternative is in no such role
    abbrev pub IsOfThese : Type 0
    IsOfThese =
        (label : NodeKind) (from : ℕ) (r : Range) (p : Value) → is_one_of labels label ≡ false
        → f (build x ts label from r p) ≡ None

    leaning : IsOfThese → is_one_of labels l.Binary ≡ false → is_one_of labels l.TypedBinary ≡ false
        → (lean : Lean) (from : ℕ) (r : Range) (p : Value) → f (build x ts (label_of lean) from r p) ≡ None
    leaning none a b vLean.Binary from r p = none l.Binary from r p a
    leaning none a b vLean.TypedBinary from r p = none l.TypedBinary from r p b

    pub no_role : IsOfThese → is_one_of labels l.Binary ≡ false → is_one_of labels l.TypedBinary ≡ false
        → ((e : Option Expr) → f (target_of x ts e) ≡ None) → (w : What) (from to : ℕ) (es : List Entry)
        → IsNone labels w → given (typed (made x ts w from to (held x ts es) (parts_of x ts es))) f ≡ None
    no_role none a b targets vWhat.Leaf from to es e = refl
    no_role none a b targets (vWhat.Node label) from to es e = none label from _ (held x ts es) e
    no_role none a b targets (vWhat.Role label) from to es e = in_role x ts f targets (part (held x ts es) 0)
    no_role none a b targets vWhat.Parts from to es e = in_held x ts f es
    no_role none a b targets (vWhat.Lean lean) from to es e =
        in_leant x ts f (leaning none a b) lean from (parts_of x ts es)

  -- ---- patterns
  no_pat : (label : NodeKind) (from : ℕ) (r : Range) (p : Value) → is_one_of patterns label ≡ false
      → low.pat_of x ts label from r p ≡ None
  unfolding low.pat_of
  no_pat label from r p e =
      past (same_label label l.NamePattern) _ _ _ e (λ e.
      past (same_label label l.ArrayPattern) _ _ _ e (λ e.
      past (same_label label l.ObjectPattern) _ _ _ e (λ e.
      past (same_label label l.RestPattern) _ _ _ e (λ e.
      past (same_label label l.DefaultPattern) _ _ _ e (λ e. refl)))))

  pat_node : (label : NodeKind) (from : ℕ) (r : Range) (p : Value) → is_one_of patterns label ≡ false
      → (build x ts label from r p).pat ≡ None
  unfolding build
  pat_node label from r p e = no_pat label from r p e

  target_adds : (v : Value) (old : Names) → Adds bound_names old old (pat_in (as_target x ts v))
  unfolding view.target
  target_adds absent old = record { added = tt }
  target_adds nil old = record { added = tt }
  target_adds (more v vs) old = record { added = tt }
  target_adds (token n) old = record { added = tt }
  target_adds (node from to m) old = adds_target m.expr old

  pat_here : (w : What) (from to : ℕ) (es : List Entry) (old : Names) → IsNone patterns w
      → Adds bound_names old old (pat_in (made x ts w from to (held x ts es) (parts_of x ts es)))
  pat_here vWhat.Leaf from to es old e = record { added = tt }
  pat_here (vWhat.Node label) from to es old e =
      adds_nothing bound_names old old _ (pat_node label from _ (held x ts es) e)
  pat_here (vWhat.Role label) from to es old e = target_adds (part (held x ts es) 0) old
  pat_here vWhat.Parts from to es old e = adds_nothing bound_names old old _ (in_held x ts (λ m. m.pat) es)
  pat_here (vWhat.Lean lean) from to es old e =
      adds_nothing bound_names old old _
      (in_leant x ts (λ m. m.pat) (leaning (λ m. m.pat) patterns pat_node refl refl) lean from (parts_of x ts es))

  pub pat_unknown : (i : Item) (old : Names) → IsNone patterns i.what
      → Adds bound_names old old (pat_in (valued x ts i))
  pat_unknown i old e = pat_here i.what i.from i.to i.parts.entries.now old e

  -- ---- patterns that may have `?` or a type behind them
  marked_node : (label : NodeKind) (from : ℕ) (r : Range) (p : Value) → is_one_of marked_patterns label ≡ false
      → (build x ts label from r p).marked ≡ None
  unfolding build low.marked_of
  marked_node label from r p e =
      past (same_label label l.NamePattern) _ _ _ e (λ e.
      past (same_label label l.ArrayPattern) _ _ _ e (λ e.
      past (same_label label l.ObjectPattern) _ _ _ e (λ e. refl)))

  pub marked_unknown : (mark : Bool) (ty : Option TsPart) (r : Range) (i : Item) (old : Names)
      → IsNone marked_patterns i.what
      → Adds (λ (pat : AMarked). bound_names (pat mark ty r)) old old (marked_in (valued x ts i))
  marked_unknown mark ty r i old e =
      adds_nothing (λ (pat : AMarked). bound_names (pat mark ty r)) old old _
      (no_role (λ m. m.marked) marked_patterns marked_node refl refl (λ e. refl) i.what i.from i.to
      i.parts.entries.now e)

  -- ---- properties of patterns
  prop_node : (label : NodeKind) (from : ℕ) (r : Range) (p : Value) → is_one_of pattern_props label ≡ false
      → (build x ts label from r p).pat_prop ≡ None
  unfolding build low.pat_prop_of
  prop_node label from r p e =
      past (same_label label l.RestProperty) _ _ _ e (λ e.
      past (same_label label l.KeyPattern) _ _ _ e (λ e.
      past (same_label label l.NameProperty) _ _ _ e (λ e. refl)))

  pub prop_unknown : (i : Item) (old : Names) → IsNone pattern_props i.what
      → Adds prop_names old old (pat_prop_in (valued x ts i))
  prop_unknown i old e =
      adds_nothing prop_names old old _
      (no_role (λ m. m.pat_prop) pattern_props prop_node refl refl (λ e. refl) i.what i.from i.to
      i.parts.entries.now e)

  -- ---- variables
  declarator_node : (label : NodeKind) (from : ℕ) (r : Range) (p : Value) → is_one_of declarators label ≡ false
      → (build x ts label from r p).declarator ≡ None
  unfolding build low.declarator_of
  declarator_node label from r p e =
      past (same_label label l.Declarator) _ _ _ e (λ e.
      past (same_label label l.TypedDeclarator) _ _ _ e (λ e.
      ap (option_map (declarator_of r None)) (no_pat label from r p e)))

  pub declarator_unknown : (i : Item) (old : Names) → IsNone declarators i.what
      → Adds declarator_names old old (declarator_in (valued x ts i))
  declarator_unknown i old e =
      adds_nothing declarator_names old old _
      (no_role (λ m. m.declarator) declarators declarator_node refl refl (λ e. refl) i.what i.from i.to
      i.parts.entries.now e)

  variables_node : (label : NodeKind) (from : ℕ) (r : Range) (p : Value) → is_one_of variable_labels label ≡ false
      → (build x ts label from r p).variables ≡ None
  unfolding build low.variables_of
  variables_node label from r p e =
      past (same_label label l.Variables) _ _ _ e (λ e.
      past (same_label label l.Using) _ _ _ e (λ e. refl))

  pub variables_unknown : (i : Item) (old : Names) → IsNone variable_labels i.what
      → Adds variables_names old old (variables_in (valued x ts i))
  variables_unknown i old e =
      adds_nothing variables_names old old _
      (no_role (λ m. m.variables) variable_labels variables_node refl refl (λ e. refl) i.what i.from i.to
      i.parts.entries.now e)

  -- ---- declarations
  no_declarable : (label : NodeKind) (r : Range) (p : Value) → is_one_of declarables label ≡ false
      → low.declarable_of x ts label r p ≡ None
  unfolding low.declarable_of
  no_declarable label r p e =
      past (same_label label l.TypedFunction) _ _ _ e (λ e.
      past (same_label label l.TypedAsyncFunction) _ _ _ e (λ e.
      past (same_label label l.TypedClass) _ _ _ e (λ e.
      past (same_label label l.AbstractClass) _ _ _ e (λ e.
      past (same_label label l.InterfaceDeclaration) _ _ _ e (λ e.
      past (same_label label l.AliasDeclaration) _ _ _ e (λ e.
      past (same_label label l.EnumDeclaration) _ _ _ e (λ e.
      past (same_label label l.NamespaceDeclaration) _ _ _ e (λ e.
      past (same_label label l.ModuleDeclaration) _ _ _ e (λ e.
      past (same_label label l.GlobalDeclaration) _ _ _ e (λ e. refl))))))))))

  declarable_node : (label : NodeKind) (from : ℕ) (r : Range) (p : Value) → is_one_of declarables label ≡ false
      → (build x ts label from r p).declarable ≡ None
  unfolding build
  declarable_node label from r p e = no_declarable label r p e

  pub declarable_unknown : (declare : Bool) (r : Range) (i : Item) (old : Names) → IsNone declarables i.what
      → Adds (λ (decl : Declarable). declared_names (decl declare r)) old old (declarable_in (valued x ts i))
  declarable_unknown declare r i old e =
      adds_nothing (λ (decl : Declarable). declared_names (decl declare r)) old old _
      (no_role (λ m. m.declarable) declarables declarable_node refl refl (λ e. refl) i.what i.from i.to
      i.parts.entries.now e)

  decl_node : (label : NodeKind) (from : ℕ) (r : Range) (p : Value) → is_one_of declarations label ≡ false
      → (build x ts label from r p).decl ≡ None
  unfolding build low.decl_of
  decl_node label from r p e =
      past (same_label label l.Function) _ _ _ e (λ e.
      past (same_label label l.AsyncFunction) _ _ _ e (λ e.
      past (same_label label l.Class) _ _ _ e (λ e.
      past (same_label label l.VariableDeclaration) _ _ _ e (λ e.
      past (same_label label l.UsingDeclaration) _ _ _ e (λ e.
      past (same_label label l.Variables) _ _ _ e (λ e.
      past (same_label label l.Using) _ _ _ e (λ e.
      past (same_label label l.Declared) _ _ _ e (λ e.
      past (same_label label l.DeclaredVariables) _ _ _ e (λ e.
      ap (option_map (λ (decl : Declarable). decl false r)) (no_declarable label r p e))))))))))

  pub decl_unknown : (i : Item) (old : Names) → IsNone declarations i.what
      → Adds declared_names old old (decl_in (valued x ts i))
  decl_unknown i old e =
      adds_nothing declared_names old old _
      (no_role (λ m. m.decl) declarations decl_node refl refl (λ e. refl) i.what i.from i.to i.parts.entries.now e)

  entity_node : (label : NodeKind) (from : ℕ) (r : Range) (p : Value) → is_one_of entities label ≡ false
      → (build x ts label from r p).entity ≡ None
  unfolding build low.entity_of
  entity_node label from r p e =
      past (same_label label l.Entity) _ _ _ e (λ e.
      past (same_label label l.EntityOfType) _ _ _ e (λ e. refl))

  pub entity_unknown : (i : Item) (old : Names) → IsNone entities i.what
      → Adds entity_names old old (entity_in (valued x ts i))
  entity_unknown i old e =
      adds_nothing entity_names old old _
      (no_role (λ m. m.entity) entities entity_node refl refl (λ e. refl) i.what i.from i.to i.parts.entries.now e)

  -- ---- what stands where a name may stand, and is none
  own_nothing : (v : Value) (old : Names) → as_group v ≡ nil → token_of ts v ≡ None
      → Adds own_names old old (own_name_of x ts v)
  own_nothing absent old e f = record { added = nothing old }
  own_nothing nil old e f = record { added = nothing old }
  own_nothing (more v vs) old e f = let bad : ⊥ = cc in absurd bad
  own_nothing (token n) old e f =
      adds_nothing own_names old old _ (ap (option_map (λ (t : Token). Some (ident_of x t))) f)
  own_nothing (node from to m) old e f = record { added = nothing old }

  pub own_node : (from to : ℕ) (m : Typed) (old : Names) → Adds own_names old old (own_name_of x ts (node from to m))
  own_node from to m old = record { added = nothing old }

  pub own_role : (v : Value) (old : Names) → Adds own_names old old (own_name_of x ts (as_target x ts v))
  own_role v old = own_nothing (as_target x ts v) old (group_role x ts v) (token_role x ts v)

  pub own_leant : (lean : Lean) (from : ℕ) (ps : List Held) (old : Names)
      → Adds own_names old old (own_name_of x ts (leant x ts lean from ps))
  own_leant lean from ps old =
      own_nothing (leant x ts lean from ps) old (group_leant x ts lean from ps) (token_leant x ts lean from ps)

  -- a group whose first part is no token
  pub own_lost : (v u us : Value) (old new : Names) → v ≡ more u us → token_of ts u ≡ None
      → Adds own_names old new (own_name_of x ts v)
  own_lost v u us old new e f =
      subst (λ (w : Value). Adds own_names old new (own_name_of x ts w)) (sym e)
      (adds_nothing own_names old new _ (ap (λ (o : Option Token). option_map Some (option_map (ident_of x) o)) f))
