-- What is written of types after patterns.
use Rattle.std.specs.Prelude.{ℕ, false, List, [], ◌∷◌, ◌++◌, Option, Some, None, option_map, IfSome, length}
use Rattle.std.proofs.Common.{◌≡◌, refl, sym, ap, subst, ◌∙◌}
use Rattle.base.specs.declared.range.Range.{Range}
use Rattle.es_token.specs.declared.token.Token.{Token}
use Rattle.es_ast.specs.declared.ts.ts.TsPart.{TsPart}
use Rattle.es_ast.specs.declared.ts.ts.TsPart.TheVariants as vPart
use Rattle.es_ast.specs.declared.ts.ts.TsType.{TsType}
use Rattle.es_ast.specs.declared.ast.Expr.{Expr}
use Rattle.es_lowering.specs.Value.{Value, nil, more, type_at}
use Rattle.es_lowering.specs.Lowering.{packed}
use Rattle.es_lowering.specs.TypeNames.{behind_in}
use Rattle.es_syntax.specs.declared.entry.What.TheVariants as vWhat
use Rattle.es_syntax.specs.Roles.{ts_type_in}
use Rattle.es_changed.specs.declared.entry.Change.TheVariants as change
use Rattle.es_changed.specs.declared.entry.Form.TheVariants as form
use Rattle.es_changed.specs.declared.entry.Word.TheVariants as word
use Rattle.es_changed.specs.declared.entry.ChangedEntry.{ChangedEntry}
use Rattle.es_changed.specs.Changed.{type_node}
use Rattle.es_changed.specs.Formed.{formed, word_type}
use Rattle.es_changed.specs.Shape.{closed, opened, Writes}
use Rattle.es_changed.proofs.Written.{form_written, group_written}
use Rattle.es_expr_spans.specs.Spans.{expr_span}
use Rattle.dts_rules.specs.declared.found.FoundKind.TheVariants as kind
use Rattle.dts_rules.specs.Made.{any_type}
use Rattle.dts_rules.specs.Rules as rules
use Rattle.dts_rules.specs.Rules.{State, or_any, typed_by}
use Rattle.dts_rules.specs.Programs.{shown_expr}
use Rattle.dts_draft.specs.declared.draft.Draft.{Draft}
use Rattle.dts_draft.specs.Drafts.{state_of}
use Rattle.dts_draft.specs.Written.{IfThere}
use Rattle.dts_draft.proofs.There.{lifted}
use Rattle.dts_draft.proofs.Lists.{as_packed}
use Rattle.dts_enums.specs.Enums.{Copies}
use Rattle.dts_operands.proofs.Forms.{span_is}
use Rattle.dts_types.specs.Types.{OrAny}
use Rattle.dts_types.specs.declared.ask.Ask.{Ask}
use Rattle.dts_parts.specs.Groups.{annotation_in, KeptGroup, Annotated, DefaultGroup, TypeGroup, default_type}

module _ (x : List ℕ) (ts : List Token) where
  pub kept_group : (old begun mid new : List ChangedEntry) (place : ℕ) (row : Value) → begun ≡ old ++ opened
      → place ≡ length old → Copies x ts begun mid row → new ≡ closed (change.Old vWhat.Parts) 0 0 place mid
      → KeptGroup x ts old new row
  kept_group old begun mid new place row eo ep c e = record {
    value = packed c.values;
    writes = group_written x ts 0 0 place old begun mid new c.values eo ep c.writes e;
    is = as_packed c.values ∙ c.are;
  }

  -- a type in a group
  pub typed_group : (old outer inner filled closed_ new : List ChangedEntry) (spot place to : ℕ) (v : Value) (ty : TsType)
      → outer ≡ old ++ opened → spot ≡ length old → inner ≡ outer ++ opened → place ≡ length outer
      → Writes x ts inner filled (v ∷ []) → ts_type_in v ≡ Some ty
      → closed_ ≡ closed (change.Form form.Annotation) to to place filled
      → new ≡ closed (change.Old vWhat.Parts) 0 0 spot closed_ → Annotated x ts old new to ty
  typed_group old outer inner filled closed_ new spot place to v ty eo es ei ep w is ec en = record {
    value = packed (formed x ts form.Annotation to to (packed (v ∷ [])) ∷ []);
    writes = group_written x ts 0 0 spot old outer closed_ new
        (formed x ts form.Annotation to to (packed (v ∷ [])) ∷ [])
        eo es (form_written x ts form.Annotation to to place outer inner filled closed_ (v ∷ []) ei ep w ec) en;
    is = ap (λ (o : Option TsType). option_map (λ ty. option_map vPart.TypeAnn ty) (option_map Some o)) is;
    ends = λ n. refl;
  }

  pub any_group : (old outer inner filled closed_ new : List ChangedEntry) (spot place to : ℕ) → outer ≡ old ++ opened
      → spot ≡ length old → inner ≡ outer ++ opened → place ≡ length outer
      → Writes x ts inner filled (type_node 0 0 (Some (word_type word.Any)) ∷ [])
      → closed_ ≡ closed (change.Form form.Annotation) to to place filled
      → new ≡ closed (change.Old vWhat.Parts) 0 0 spot closed_ → Annotated x ts old new to any_type
  any_group old outer inner filled closed_ new spot place to eo es ei ep w ec en =
      typed_group old outer inner filled closed_ new spot place to (type_node 0 0 (Some (word_type word.Any))) any_type
      eo es ei ep w refl ec en

  module _ (by : rules.Env) where
    abbrev Wide : Ask
    Wide = record { literal = false; readonly = false; frozen = false }

    pub default_group : (old outer inner filled closed_ new : Draft) (spot place to : ℕ) {range : Range}
        (o : Option Expr)
        → outer.row ≡ old.row ++ opened → spot ≡ length old.row → inner.row ≡ outer.row ++ opened
        → place ≡ length outer.row → state_of inner ≡ state_of old → IfSome o (λ e. range ≡ expr_span e)
        → IfThere (OrAny x ts by kind.UnableToInferTypeFallbackAny range Wide inner filled) o
        → closed_.row ≡ closed (change.Form form.Annotation) to to place filled.row
        → new.row ≡ closed (change.Old vWhat.Parts) 0 0 spot closed_.row → state_of new ≡ state_of filled
        → IfThere (DefaultGroup x ts by old new to) o
    default_group old outer inner filled closed_ new spot place to {range} None eo es ei ep si r h ec en sn =
        record { is = tt }
    default_group old outer inner filled closed_ new spot place to {range} (Some e) eo es ei ep si r h ec en sn =
        record {
          is = record {
            state = sn ∙ (h.is.state ∙ ap (λ (p : TsType × State). p.1) same);
            group = typed_group old.row outer.row inner.row filled.row closed_.row new.row spot place to h.is.puts.value
                (default_type x ts by e (state_of old)).0 eo es ei ep h.is.puts.writes
                (h.is.puts.is ∙ ap (λ (p : TsType × State). Some p.0) same) ec en;
          };
        }
      where
        same : or_any kind.UnableToInferTypeFallbackAny range ((shown_expr by e).rule false false (state_of inner))
            ≡ default_type x ts by e (state_of old)
        same =
            ap (λ (r : Range). or_any kind.UnableToInferTypeFallbackAny r
            ((shown_expr by e).rule false false (state_of inner))) (r ∙ sym (span_is by e))
            ∙ ap (λ (s : State). default_type x ts by e s) si

    pub default_at : (old new : Draft) (to end : ℕ) (o : Option Expr) → end ≡ to
        → IfThere (DefaultGroup x ts by old new to) o → IfThere (DefaultGroup x ts by old new end) o
    default_at old new to end o e h =
        subst (λ (n : ℕ). IfThere (DefaultGroup x ts by old new n) o) (sym e) h

    -- ---- its own type, or that of the default
    read_some : (v vs : Value) (own : Option TsPart) → annotation_in (more v vs) ≡ Some own
        → (ty : TsPart) × (own ≡ Some ty)
    read_some v vs own e = go (type_at (more v vs) 0) e
      where
        unsome : Option (Option TsPart) → Option TsPart
        unsome (Some o) = o
        unsome None = None

        go : (o : Option TsType) → option_map (λ ty. option_map vPart.TypeAnn ty) (option_map Some o) ≡ Some own
            → (ty : TsPart) × (own ≡ Some ty)
        go None e = let bad : ⊥ = cc in absurd bad
        go (Some ty) e = (vPart.TypeAnn ty, sym (ap unsome e))

    pub type_kept : (old new : Draft) (row v vs : Value) (end : ℕ) (o : Option Expr) → row ≡ more v vs
        → KeptGroup x ts old.row new.row row → state_of new ≡ state_of old
        → IfThere (λ a. IfThere (TypeGroup x ts by old new row end a) o) (annotation_in row)
    type_kept old new row v vs end o e k sn = go (annotation_in row) refl
      where
        one : (own : Option TsPart) → annotation_in row ≡ Some own → (e : Expr)
            → TypeGroup x ts by old new row end own e
        one own is it =
            let some_ : (ty : TsPart) × (own ≡ Some ty) =
            read_some v vs own (ap annotation_in (sym e) ∙ is) in
            record {
              value = k.value;
              writes = k.writes;
              part = own;
              typed = subst (λ (own : Option TsPart). typed_by by own (shown_expr by it) (state_of old)
                  ≡ (own, state_of new)) (sym some_.1)
                  (ap (λ (s : State). (Some some_.0, s)) (sym sn));
              is = ap annotation_in k.is ∙ is;
              ends = λ n. ap (λ (v : Value). behind_in v n) (k.is ∙ e) ∙ ap (λ (v : Value). behind_in v end) (sym e);
            }

        all : (own : Option TsPart) → annotation_in row ≡ Some own → (o : Option Expr)
            → IfThere (TypeGroup x ts by old new row end own) o
        all own is None = record { is = tt }
        all own is (Some it) = record { is = one own is it }

        go : (a : Option (Option TsPart)) → annotation_in row ≡ a
            → IfThere (λ a. IfThere (TypeGroup x ts by old new row end a) o) a
        go None is = record { is = tt }
        go (Some own) is = record { is = all own is o }

    pub type_made : (old new : Draft) (row : Value) (end : ℕ) (o : Option Expr) → row ≡ nil
        → IfThere (DefaultGroup x ts by old new end) o
        → IfThere (λ a. IfThere (TypeGroup x ts by old new row end a) o) (annotation_in row)
    type_made old new row end o e h =
        subst (λ (row : Value). IfThere (λ a. IfThere (TypeGroup x ts by old new row end a) o) (annotation_in row))
        (sym e)
        (record {
          is = lifted (λ it d. record {
            value = d.group.value;
            writes = d.group.writes;
            part = Some (vPart.TypeAnn (default_type x ts by it (state_of old)).0);
            typed = ap (λ (s : State). (Some (vPart.TypeAnn (default_type x ts by it (state_of old)).0), s))
                (sym d.state);
            is = d.group.is;
            ends = d.group.ends;
          }) h;
        })
