-- Types that stand as they are, or behind `readonly`.
use Rattle.std.specs.Prelude.{ℕ, Bool, true, false, List, [], ◌∷◌, ◌++◌, length, Option, Some, None, option_map, IfSome}
use Rattle.std.proofs.Common.{◌≡◌, refl, sym, ap, subst, ◌∙◌}
use Rattle.base.specs.declared.range.Range.{Range}
use Rattle.es_token.specs.declared.token.Token.{Token}
use Rattle.es_grammar.specs.declared.rows.NodeKind.{NodeKind}
use Rattle.es_grammar.specs.declared.rows.NodeKind.TheVariants as l
use Rattle.es_ast.specs.declared.ts.leaf.TsTypeOperatorOp.TheVariants as operator
use Rattle.es_ast.specs.declared.ts.ts.TsType.{TsType}
use Rattle.es_ast.specs.declared.ts.ts.TsType.TheVariants as vType
use Rattle.es_lowering.specs.Value.{Value, group, is_there, given, optional, turns, type_at, element_at, type_params_at, fn_params_at}
use Rattle.es_lowering.specs.Texts.{span_of}
use Rattle.es_lowering.specs.Types.{array_types, type_operator, function_type, constructor_type, tuple_type}
use Rattle.es_lowering.specs.Lowering.{packed, build, type_of}
use Rattle.es_syntax.specs.declared.entry.What.TheVariants as what
use Rattle.es_syntax.specs.declared.cursor.Item.{Item}
use Rattle.es_syntax.specs.Held.{held, valued}
use Rattle.es_syntax.specs.Roles.{ts_type_in}
use Rattle.es_syntax.specs.Views.{is_one_of}
use Rattle.es_changed.specs.declared.entry.Form.TheVariants as form
use Rattle.es_changed.specs.declared.entry.ChangedEntry.{ChangedEntry}
use Rattle.es_changed.specs.Formed.{formed}
use Rattle.es_changed.specs.Shape.{Writes}
use Rattle.es_changed.proofs.Written.{nothing_written}
use Rattle.es_expr_spans.proofs.Given.{Of, one, of_given, of_mapped}
use Rattle.dts_rules.specs.Made.{frozen, if_true, readonly_type}
use Rattle.dts_draft.specs.Written.{IfThere, Puts, Gives}
use Rattle.dts_kept.specs.Kept.{frozen_labels, kept_of, behind_readonly, FrozenArray, FrozenOperator, IsFrozen, IsKept}
use Rattle.dts_kept.proofs.TypeForms.{None_, other_type, frozen_Fn, frozen_Constructor, frozen_Tuple}

abbrev Same : TsType → Type 0
Same ty = frozen ty ≡ Some ty

abbrev Behind : TsType → Type 0
Behind ty = frozen ty ≡ Some (readonly_type ty)

module _ (x : List ℕ) (ts : List Token) where
  -- ---- by what is known of the type
  there : (old new : List ChangedEntry) (b : Bool) (v : Value) (o : Option TsType) → ts_type_in v ≡ o
      → IfThere (IsFrozen x ts old new b) o → IfThere (IsFrozen x ts old new b) (ts_type_in v)
  there old new b v o e h = subst (λ o. IfThere (IsFrozen x ts old new b) o) (sym e) h

  same_by : (old new : List ChangedEntry) (v : Value) (o : Option TsType) → ts_type_in v ≡ o → Of Same o
      → Writes x ts old new (v ∷ []) → IfThere (IsFrozen x ts old new true) o
  same_by old new v None e h w = record { is = tt }
  same_by old new v (Some ty) e h w = record {
    is = subst (Gives x ts ts_type_in old new true) (sym h.is) (refl, record { value = v; writes = w; is = e });
  }

  readonly_read : (v : Value) → ts_type_in (formed x ts form.Readonly 0 0 (packed (v ∷ [])))
      ≡ option_map readonly_type (ts_type_in v)
  readonly_read v = refl

  behind_by : (old new : List ChangedEntry) (v : Value) (o : Option TsType) → ts_type_in v ≡ o → Of Behind o
      → Writes x ts old new (formed x ts form.Readonly 0 0 (packed (v ∷ [])) ∷ [])
      → IfThere (IsFrozen x ts old new true) o
  behind_by old new v None e h w = record { is = tt }
  behind_by old new v (Some ty) e h w = record {
    is = subst (Gives x ts ts_type_in old new true) (sym h.is) (
      refl,
      record {
        value = formed x ts form.Readonly 0 0 (packed (v ∷ []));
        writes = w;
        is = readonly_read v ∙ ap (option_map readonly_type) e;
      },
    );
  }

  none_by : (old : List ChangedEntry) (o : Option TsType) → Of None_ o → IfThere (IsFrozen x ts old old false) o
  none_by old None h = record { is = tt }
  none_by old (Some ty) h = record {
    is = subst (Gives x ts ts_type_in old old false) (sym h.is) (refl, nothing_written x ts old);
  }

  -- ---- each alternative
  pub function_stands : (old new : List ChangedEntry) (v : Value) (r : Range) (p : Value) → Writes x ts old new (v ∷ [])
      → ts_type_in v ≡ type_of x ts l.FunctionType r p → IfThere (IsFrozen x ts old new true) (ts_type_in v)
  unfolding type_of function_type
  function_stands old new v r p w e =
      there old new true v _ e (same_by old new v _ e
      (of_given Same (optional type_params_at (group p 0)) (λ type_params.
      of_given Same (fn_params_at p 1) (λ params.
      of_given Same (type_at p 2) (λ ty. one Same (frozen_Fn type_params params ty r))))) w)

  pub constructor_stands : (old new : List ChangedEntry) (v : Value) (r : Range) (p : Value)
      → Writes x ts old new (v ∷ [])
      → ts_type_in v ≡ type_of x ts l.ConstructorType r p → IfThere (IsFrozen x ts old new true) (ts_type_in v)
  unfolding type_of constructor_type
  constructor_stands old new v r p w e =
      there old new true v _ e (same_by old new v _ e
      (of_given Same (optional type_params_at (group p 1)) (λ type_params.
      of_given Same (fn_params_at p 2) (λ params.
      of_given Same (type_at p 3)
      (λ ty. one Same (frozen_Constructor (is_there (group p 0)) type_params params ty r))))) w)

  pub tuple_stands : (old new : List ChangedEntry) (v : Value) (r : Range) (p : Value)
      → Writes x ts old new (formed x ts form.Readonly 0 0 (packed (v ∷ [])) ∷ [])
      → ts_type_in v ≡ type_of x ts l.TupleType r p → IfThere (IsFrozen x ts old new true) (ts_type_in v)
  unfolding type_of tuple_type
  tuple_stands old new v r p w e =
      there old new true v _ e (behind_by old new v _ e
      (of_mapped Behind (turns (λ turn. element_at turn 0) (group p 0)) (λ elems. frozen_Tuple elems r)) w)

  pub array_stands : (old new : List ChangedEntry) (b : Bool) (v : Value) (r : Range) (p : Value) → b ≡ true
      → FrozenArray b (array_types ts r p)
      → Writes x ts old new (formed x ts form.Readonly 0 0 (packed (v ∷ [])) ∷ [])
      → ts_type_in v ≡ type_of x ts l.ArrayTypes r p → IfThere (IsFrozen x ts old new true) (ts_type_in v)
  unfolding type_of
  array_stands old new b v r p is h w e =
      there old new true v _ e (behind_by old new v _ e
      (record { is = subst (λ b. FrozenArray b (array_types ts r p)) is h }) w)

  pub array_none : (old : List ChangedEntry) (b : Bool) (v : Value) (r : Range) (p : Value) → b ≡ false
      → FrozenArray b (array_types ts r p)
      → ts_type_in v ≡ type_of x ts l.ArrayTypes r p → IfThere (IsFrozen x ts old old false) (ts_type_in v)
  unfolding type_of
  array_none old b v r p is h e =
      there old old false v _ e (none_by old _
      (record { is = subst (λ b. FrozenArray b (array_types ts r p)) is h }))

  pub operator_stands : (old new : List ChangedEntry) (b : Bool) (v : Value) (r : Range) (p : Value) → b ≡ true
      → FrozenOperator b (type_operator ts r p) → Writes x ts old new (v ∷ [])
      → ts_type_in v ≡ type_of x ts l.TypeOperator r p → IfThere (IsFrozen x ts old new true) (ts_type_in v)
  unfolding type_of
  operator_stands old new b v r p is h w e =
      there old new true v _ e (same_by old new v _ e
      (record { is = subst (λ b. FrozenOperator b (type_operator ts r p)) is h }) w)

  pub operator_none : (old : List ChangedEntry) (b : Bool) (v : Value) (r : Range) (p : Value) → b ≡ false
      → FrozenOperator b (type_operator ts r p)
      → ts_type_in v ≡ type_of x ts l.TypeOperator r p → IfThere (IsFrozen x ts old old false) (ts_type_in v)
  unfolding type_of
  operator_none old b v r p is h e =
      there old old false v _ e (none_by old _
      (record { is = subst (λ b. FrozenOperator b (type_operator ts r p)) is h }))

  -- ---- by the node
  pub own : (old new : List ChangedEntry) (wrote : Bool) (i : Item) (label : NodeKind) → i.what ≡ what.Node label
      → (ts_type_in (valued x ts i) ≡ type_of x ts label (span_of ts i.from i.to) (held x ts i.parts.entries.now)
      → IfThere (IsFrozen x ts old new wrote) (ts_type_in (valued x ts i)))
      → IfThere (IsFrozen x ts old new wrote) (ts_type_in (valued x ts i))
  unfolding build
  own old new wrote i label is h =
      h (ap (λ w. ts_type_in (valued x ts (record { what = w; from = i.from; to = i.to; parts = i.parts }))) is)

  pub other : (old : List ChangedEntry) (i : Item) (label : NodeKind) → i.what ≡ what.Node label
      → is_one_of frozen_labels label ≡ false → IfThere (IsFrozen x ts old old false) (ts_type_in (valued x ts i))
  unfolding build
  other old i label is e =
      there old old false (valued x ts i) _
      (ap (λ w. ts_type_in (valued x ts (record { what = w; from = i.from; to = i.to; parts = i.parts }))) is)
      (none_by old _ (other_type x ts label (span_of ts i.from i.to) (held x ts i.parts.entries.now) e))

  -- ---- as it stands
  pub stands : {old new : List ChangedEntry} {v : Value} → Writes x ts old new (v ∷ [])
      → IfThere (IsKept x ts old new true false) (ts_type_in v)
  stands {old = old} {new = new} {v = v} w = go (ts_type_in v) refl
    where
      go : (o : Option TsType) → ts_type_in v ≡ o → IfThere (IsKept x ts old new true false) o
      go None e = record { is = tt }
      go (Some ty) e = record { is = (refl, record { value = v; writes = w; is = e }) }
