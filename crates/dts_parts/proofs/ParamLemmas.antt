-- What parameters are, by what is written of them.
use Rattle.std.specs.Prelude.{ℕ, ◌+◌, Bool, true, false, ◌&&◌, not, List, [], ◌∷◌, ◌++◌, length, Option, Some, None, option_map, IfSome, slice_get}
use Rattle.std.proofs.Common.{◌≡◌, refl, sym, ap, subst, ◌∙◌}
use Rattle.base.specs.declared.range.Range.{Range}
use Rattle.es_token.specs.declared.token.Token.{Token}
use Rattle.es_grammar.specs.declared.rows.NodeKind.TheVariants as l
use Rattle.es_ast.specs.declared.ts.ts.TsPart.{TsPart}
use Rattle.es_ast.specs.declared.ts.ts.TsPart.TheVariants as vPart
use Rattle.es_ast.specs.declared.ts.ts.TsType.{TsType}
use Rattle.es_ast.specs.declared.leaf.Modifiers.{Modifiers}
use Rattle.es_ast.specs.declared.ast.Expr.{Expr}
use Rattle.es_ast.specs.declared.ast.Param.{Param}
use Rattle.es_ast.specs.declared.ast.Pat.{Pat, out-Pat, out-roll-Pat}
use Rattle.es_ast.specs.declared.ast.Pat.TheVariants as vPat
use Rattle.es_ast.specs.declared.ast.ClassMember.TheOpen.{Pat-F}
use Rattle.es_lowering.specs.Value.{Value, nil, more, given, as_group, is_there, optional, turns, expr_at, pat_at, pat_prop_at, type_at, first_of, behind}
use Rattle.es_lowering.specs.Texts.{ident_of, span_of, token_of}
use Rattle.es_lowering.specs.Expressions.{elements}
use Rattle.es_lowering.specs.Patterns.{with_default}
use Rattle.es_lowering.specs.Functions.{plain}
use Rattle.es_lowering.specs.Functions as functions
use Rattle.es_lowering.specs.TypeNames.{behind_in}
use Rattle.es_lowering.specs.TypeTexts as type_texts
use Rattle.es_lowering.specs.TypedParts.{marked_by, modifiers_in, param_by, marked_parameter, property_parameter, tailed_at}
use Rattle.es_lowering.specs.Lowering.{packed, build}
use Rattle.es_lowering.specs.Lowering as lowering
use Rattle.es_syntax.specs.declared.entry.What.TheVariants as vWhat
use Rattle.es_syntax.specs.declared.cursor.Item.{Item}
use Rattle.es_syntax.specs.Held.{node_of, valued}
use Rattle.es_syntax.specs.Roles.{expr_in, marked_in, param_in, pat_in}
use Rattle.es_changed.specs.declared.entry.Change.TheVariants as change
use Rattle.es_changed.specs.declared.entry.Form.TheVariants as form
use Rattle.es_changed.specs.declared.entry.ChangedEntry.{ChangedEntry}
use Rattle.es_changed.specs.Formed.{formed}
use Rattle.es_changed.specs.Shape.{closed, opened, Writes}
use Rattle.es_changed.proofs.Written.{both_written, node_written}
use Rattle.es_view_expressions.specs.pattern.Marked as marked_view
use Rattle.es_view_expressions.specs.pattern.Pat as pat_view
use Rattle.es_view_statements.specs.param.Param as param_view
use Rattle.es_view_statements.specs.param.Param.{Marked, tailed}
use Rattle.dts_rules.specs.declared.found.FoundKind.TheVariants as kind
use Rattle.dts_rules.specs.Made.{any_type, annotation}
use Rattle.dts_rules.specs.Rules as rules
use Rattle.dts_rules.specs.Rules.{Env, State, ShownParam, after, note}
use Rattle.dts_rules.specs.Programs.{shown_expr, shown_pat}
use Rattle.dts_rules.proofs.Shown.{at_param}
use Rattle.dts_draft.specs.declared.draft.Draft.{Draft}
use Rattle.dts_draft.specs.Drafts.{state_of}
use Rattle.dts_draft.specs.Written.{IfThere}
use Rattle.dts_draft.proofs.There.{lifted, made as made_there}
use Rattle.dts_parts.specs.Groups.{annotation_in, KeptGroup, Annotated, TypeGroup}
use Rattle.dts_parts.specs.Params.{param_rule, pat_rule, typed_range, default_param_of, Made, Tailed, TailMade, DefaultTailed, DefaultMade, AnyTailed, AnyMade, MadeOf, Changes, NoName}
use Rattle.dts_parts.specs.Patterns.{Own, IsOther}
use Rattle.dts_parts.proofs.PatternLemmas as patterns

and_false : (a : Bool) → (a && false) ≡ false
and_false true = refl
and_false false = refl

module _ (by : Env) where
  -- ---- what the rules make of parameters
  abbrev of : Modifiers → Range → Pat × State → Param × State
  of m r p = after (λ pat. param_by m r pat) p

  param_is : (m : Modifiers) (r : Range) (pat : Pat) (s : State)
      → param_rule by (param_by m r pat) s
      ≡ of m r (rules.param_pat by (rules.is_property by m && rules.is_defaulted_pattern by (out-Pat pat))
      (pat, shown_pat by pat) s)
  param_is m r pat s =
      ap (λ (k : ShownParam). k.declared s) (at_param by (record { modifiers = m; pat = pat; span = r }))

  pub ruled : (m : Modifiers) (r : Range) (pat : Pat) (s : State)
      → (rules.is_property by m && rules.is_defaulted_pattern by (out-Pat pat)) ≡ false
      → param_rule by (param_by m r pat) s ≡ of m r (pat_rule by pat s)
  ruled m r pat s e =
      param_is m r pat s ∙ ap (λ (b : Bool). of m r (rules.param_pat by b (pat, shown_pat by pat) s)) e

  pub stays : (m : Modifiers) (r : Range) (pat : Pat) (s : State)
      → (rules.is_property by m && rules.is_defaulted_pattern by (out-Pat pat)) ≡ true
      → param_rule by (param_by m r pat) s ≡ (param_by m r pat, s)
  stays m r pat s e =
      param_is m r pat s ∙ ap (λ (b : Bool). of m r (rules.param_pat by b (pat, shown_pat by pat) s)) e

  pub plain_ruled : (r : Range) (pat : Pat) (s : State)
      → param_rule by (param_by plain r pat) s ≡ of plain r (pat_rule by pat s)
  plain_ruled r pat s = ruled plain r pat s refl

  pub undefaulted : (m : Modifiers) (r : Range) (pat : Pat) (s : State)
      → rules.is_defaulted_pattern by (out-Pat pat) ≡ false
      → param_rule by (param_by m r pat) s ≡ of m r (pat_rule by pat s)
  undefaulted m r pat s e =
      ruled m r pat s (ap (λ (b : Bool). rules.is_property by m && b) e ∙ and_false (rules.is_property by m))

  module _ (x : List ℕ) (ts : List Token) where
    -- ---- a parameter that stays as it is
    pub kept_made : (old new : Draft) (v : Value) (it : Param) → param_in v ≡ Some it
        → Writes x ts old.row new.row (v ∷ []) → state_of new ≡ state_of old
        → param_rule by it (state_of old) ≡ (it, state_of old) → Made x ts param_in (param_rule by) old new it
    kept_made old new v it is w sn e = record {
      state = sn ∙ ap (λ (p : Param × State). p.1) (sym e);
      puts = record { value = v; writes = w; is = is ∙ ap (λ (p : Param × State). Some p.0) (sym e) };
    }

    pub kept_there : (old new : Draft) (v : Value) (o : Option Param) → param_in v ≡ o
        → Writes x ts old.row new.row (v ∷ []) → state_of new ≡ state_of old
        → IfThere (λ it. (s : State) → param_rule by it s ≡ (it, s)) o
        → IfThere (Made x ts param_in (param_rule by) old new) (param_in v)
    kept_there old new v o is w sn h =
        subst (λ (o : Option Param). IfThere (Made x ts param_in (param_rule by) old new) o) (sym is) (go o is h)
      where
        go : (o : Option Param) → param_in v ≡ o → IfThere (λ it. (s : State) → param_rule by it s ≡ (it, s)) o
            → IfThere (Made x ts param_in (param_rule by) old new) o
        go None is h = record { is = tt }
        go (Some it) is h = record { is = kept_made old new v it is w sn (h.is (state_of old)) }

    -- ---- a changed one
    pub node_made : (m : Modifiers) (r : Range) (pat : Pat) (old begun mid new : Draft) (v : Value)
        (t : TailMade x ts by begun mid pat) → Writes x ts old.row new.row (v ∷ [])
        → param_in v ≡ Some (param_by m r t.after) → state_of begun ≡ state_of old → state_of new ≡ state_of mid
        → ((s : State) → param_rule by (param_by m r pat) s ≡ of m r (pat_rule by pat s))
        → MadeOf x ts by old new m r pat
    node_made m r pat old begun mid new v t w is sb sn rule =
        let e : param_rule by (param_by m r pat) (state_of old) ≡ (param_by m r t.after, state_of mid) =
        rule (state_of old) ∙ ap (of m r) (ap (λ (s : State). pat_rule by pat s) (sym sb) ∙ t.made) in
        record {
          state = sn ∙ ap (λ (p : Param × State). p.1) (sym e);
          puts = record { value = v; writes = w; is = is ∙ ap (λ (p : Param × State). Some p.0) (sym e) };
        }

    marked_reads : (from to : ℕ) (old new : List ChangedEntry) (pat : Pat) (t : Tailed x ts old new pat)
        → param_in (node_of x ts l.MarkedParameter from to (packed (t.name ∷ t.mark ∷ t.ty ∷ nil ∷ [])))
        ≡ Some (param_by plain (span_of ts from to) pat)
    unfolding build lowering.param_of marked_parameter
    marked_reads from to old new pat t =
        ap (option_map (param_by plain (span_of ts from to))) (t.is (span_of ts from to))

    property_reads : (from to : ℕ) (old new : List ChangedEntry) (pat : Pat) (g row : Value) (m : Modifiers)
        (t : Tailed x ts old new pat) → as_group g ≡ row → modifiers_in ts plain row ≡ Some m
        → param_in (node_of x ts l.PropertyParameter from to (packed (g ∷ t.name ∷ t.mark ∷ t.ty ∷ nil ∷ [])))
        ≡ Some (param_by m (span_of ts from to) pat)
    unfolding build lowering.param_of property_parameter
    property_reads from to old new pat g row m t same is =
        ap (λ (o : Option Modifiers). given o (λ m. option_map (param_by m (span_of ts from to))
        (tailed_at ts (packed (g ∷ t.name ∷ t.mark ∷ t.ty ∷ nil ∷ [])) 1))) (ap (modifiers_in ts plain) same ∙ is)
        ∙ ap (option_map (param_by m (span_of ts from to))) (t.is (span_of ts from to))

    pub marked_made : (pat : Pat) (old begun mid new : Draft) (place from to : ℕ) → begun.row ≡ old.row ++ opened
        → place ≡ length old.row → state_of begun ≡ state_of old → TailMade x ts by begun mid pat
        → new.row ≡ closed (change.Old (vWhat.Node l.MarkedParameter)) from to place mid.row
        → state_of new ≡ state_of mid → MadeOf x ts by old new plain (span_of ts from to) pat
    marked_made pat old begun mid new place from to eo ep sb t en sn =
        node_made plain (span_of ts from to) pat old begun mid new _ t
        (node_written x ts l.MarkedParameter from to place old.row begun.row mid.row new.row
        (t.tail.name ∷ t.tail.mark ∷ t.tail.ty ∷ nil ∷ []) eo ep t.tail.writes en)
        (marked_reads from to begun.row mid.row t.after t.tail) sb sn (λ s. plain_ruled (span_of ts from to) pat s)

    pub property_made : (pat : Pat) (old begun grouped mid new : Draft) (place from to : ℕ) (row : Value)
        (m : Modifiers)
        → modifiers_in ts plain row ≡ Some m
        → (rules.is_property by m && rules.is_defaulted_pattern by (out-Pat pat)) ≡ false
        → begun.row ≡ old.row ++ opened → place ≡ length old.row → KeptGroup x ts begun.row grouped.row row
        → state_of grouped ≡ state_of old → TailMade x ts by grouped mid pat
        → new.row ≡ closed (change.Old (vWhat.Node l.PropertyParameter)) from to place mid.row
        → state_of new ≡ state_of mid → MadeOf x ts by old new m (span_of ts from to) pat
    property_made pat old begun grouped mid new place from to row m is d eo ep g sb t en sn =
        node_made m (span_of ts from to) pat old grouped mid new _ t
        (node_written x ts l.PropertyParameter from to place old.row begun.row mid.row new.row
        (g.value ∷ t.tail.name ∷ t.tail.mark ∷ t.tail.ty ∷ nil ∷ []) eo ep
        (both_written x ts begun.row grouped.row mid.row (g.value ∷ [])
        (t.tail.name ∷ t.tail.mark ∷ t.tail.ty ∷ nil ∷ []) g.writes t.tail.writes) en)
        (property_reads from to grouped.row mid.row t.after g.value row m t.tail g.is is) sb sn
        (λ s. ruled m (span_of ts from to) pat s d)

    -- ---- a pattern, its mark and its type
    tail_is : (name k a : Value) (m : Marked) (b : Bool) (own : Option TsPart) (r span : Range)
        → marked_in name ≡ Some m
        → is_there (as_group k) ≡ b → annotation_in (as_group a) ≡ Some own
        → typed_range ts name (as_group k) (as_group a) ≡ r
        → tailed (typed_range ts name (as_group k) (as_group a)) span (marked_in name) (as_group k) (as_group a) nil
        ≡ Some (m b own r)
    tail_is name k a m b own r span e t n g =
        ap (λ (o : Option (Option TsPart)). given o (λ ty. given (marked_by (marked_in name) (is_there (as_group k)) ty
        (typed_range ts name (as_group k) (as_group a))) (λ pat. Some pat))) n
        ∙ (ap (λ (o : Option Marked). given (marked_by o (is_there (as_group k)) own
        (typed_range ts name (as_group k) (as_group a))) (λ pat. Some pat)) e
        ∙ (ap (λ (b : Bool). Some (m b own (typed_range ts name (as_group k) (as_group a)))) t
        ∙ ap (λ (r : Range). Some (m b own r)) g))

    -- with a default, which goes
    pub default_tailed : (old kept marked typed gone new : Draft) (i : Item) (mark ty : Value) (right : Option Expr)
        → Writes x ts old.row kept.row (valued x ts i ∷ [])
        → Writes x ts kept.row marked.row (packed (formed x ts form.Optional 0 0 nil ∷ []) ∷ [])
        → IfThere (λ a. IfThere (TypeGroup x ts by marked typed ty (behind_in mark (behind (valued x ts i))) a) right)
        (annotation_in ty)
        → Writes x ts typed.row gone.row [] → Writes x ts gone.row new.row (nil ∷ [])
        → state_of marked ≡ state_of old → state_of new ≡ state_of typed
        → DefaultTailed x ts by old new (valued x ts i) mark ty right
    default_tailed old kept marked typed gone new i mark ty right wk wm h wg wn sm sn =
        go (marked_in (valued x ts i)) refl (patterns.marked_there by x ts i)
      where
        r : Range
        r = typed_range ts (valued x ts i) mark ty

        one : (m : Marked) → marked_in (valued x ts i) ≡ Some m → patterns.MarkedRule by m → (a : Option TsPart)
            → (e : Expr) → TypeGroup x ts by marked typed ty (behind_in mark (behind (valued x ts i))) a e
            → (span : Range)
            → TailMade x ts by old new (vPat.Assign (m (is_there mark) a r) e span)
        one m is rule a e g span = record {
          after = m true g.part r;
          tail = record {
            name = valued x ts i;
            mark = packed (formed x ts form.Optional 0 0 nil ∷ []);
            ty = g.value;
            writes = both_written x ts old.row kept.row new.row (valued x ts i ∷ []) _ wk
                (both_written x ts kept.row marked.row new.row (packed (formed x ts form.Optional 0 0 nil ∷ []) ∷ []) _
                wm
                (both_written x ts marked.row typed.row new.row (g.value ∷ []) (nil ∷ []) g.writes
                (both_written x ts typed.row gone.row new.row [] (nil ∷ []) wg wn)));
            is = λ span.
                tail_is (valued x ts i) (packed (formed x ts form.Optional 0 0 nil ∷ [])) g.value m true g.part r span
                is
                refl g.is (ap (λ (n : ℕ). span_of ts (first_of (valued x ts i)) n) (g.ends _));
          };
          made = patterns.pat_assign by (m (is_there mark) a r) e span (state_of old)
              ∙ (rule.keeps (is_there mark) a r _ (shown_expr by e) (state_of old)
              ∙ (ap (λ (s : State). after (λ part. m true part r) (rules.typed_by by a (shown_expr by e) s)) (sym sm)
              ∙ (ap (after (λ part. m true part r)) g.typed ∙ ap (λ (s : State). (m true g.part r, s)) (sym sn))));
        }

        go : (o : Option Marked) → marked_in (valued x ts i) ≡ o → IfThere (patterns.MarkedRule by) o
            → IfThere (λ m. IfThere (λ a. IfThere (λ e. (span : Range)
            → TailMade x ts by old new (vPat.Assign (m (is_there mark) a r) e span)) right) (annotation_in ty)) o
        go None is rule = record { is = tt }
        go (Some m) is rule = record { is = lifted (λ a g. lifted (λ e t. one m is rule.is a e t) g) h }

    -- a name without a type
    ident_any : (t : Token) (mark : Bool) (r : Range) (s : State)
        → pat_rule by (vPat.Ident (type_texts.marked mark (ident_of x t)) None r) s
        ≡ (
          vPat.Ident (type_texts.marked mark (ident_of x t)) (annotation any_type) r,
          note kind.UnableToInferTypeFallbackAny t.range s,
        )
    unfolding ident_of
    ident_any t mark r s = patterns.pat_ident by (type_texts.marked mark (ident_of x t)) None r s

    pub any_tailed : (old kept marked gone noted typed new : Draft) (i : Item) (at to : ℕ) (t : Token) (mark : Value)
        → slice_get ts at ≡ Some t → behind_in mark (behind (valued x ts i)) ≡ to
        → Writes x ts old.row kept.row (valued x ts i ∷ []) → KeptGroup x ts kept.row marked.row mark
        → Writes x ts marked.row gone.row [] → noted.row ≡ gone.row
        → Annotated x ts noted.row typed.row to any_type → Writes x ts typed.row new.row (nil ∷ [])
        → state_of gone ≡ state_of old
        → state_of noted ≡ note kind.UnableToInferTypeFallbackAny t.range (state_of gone)
        → state_of new ≡ state_of noted → AnyTailed x ts by old new at (valued x ts i) mark
    unfolding marked_view.ident
    any_tailed old kept marked gone noted typed new i at to t mark there ends wk g wg er a wn sg en sn same =
        subst (λ (o : Option Marked). IfThere (λ m. TailMade x ts by old new (m (is_there mark) None r)) o) (sym known)
        (record {
          is = record {
            after = vPat.Ident (type_texts.marked (is_there mark) (ident_of x t)) (annotation any_type) r;
            tail = record {
              name = valued x ts i;
              mark = g.value;
              ty = a.value;
              writes = both_written x ts old.row kept.row new.row (valued x ts i ∷ []) _ wk
                  (both_written x ts kept.row marked.row new.row (g.value ∷ []) _ g.writes
                  (both_written x ts marked.row gone.row new.row [] (a.value ∷ nil ∷ []) wg
                  (both_written x ts gone.row typed.row new.row (a.value ∷ []) (nil ∷ [])
                  (subst (λ (row : List ChangedEntry). Writes x ts row typed.row (a.value ∷ [])) er a.writes) wn)));
              is = λ span.
                  tail_is (valued x ts i) g.value a.value _ (is_there mark) (annotation any_type) r span known
                  (ap is_there g.is) a.is
                  (ap (λ (n : ℕ). span_of ts (first_of (valued x ts i)) n) (a.ends _ ∙ sym ends));
            };
            made = ident_any t (is_there mark) r (state_of old)
                ∙ ap (λ (s : State). (
                  vPat.Ident (type_texts.marked (is_there mark) (ident_of x t)) (annotation any_type) r,
                  s,
                )) (ap (note kind.UnableToInferTypeFallbackAny t.range) (sym sg) ∙ (sym en ∙ sym sn));
          };
        })
      where
        r : Range
        r = typed_range ts (valued x ts i) mark nil

        known : marked_in (valued x ts i) ≡ Some (λ mark ty r. vPat.Ident (type_texts.marked mark (ident_of x t)) ty r)
        known =
            same ∙ ap (λ (o : Option Token). option_map (λ id mark ty r. vPat.Ident (type_texts.marked mark id) ty r)
            (option_map (ident_of x) o)) there

    -- ---- a parameter by its parts: with a default
    abbrev Param_of : Modifiers → Range → Range → Range → Option Marked → Value → Value → Value → Option Param
    Param_of m r tr span name mark ty value = option_map (param_by m r) (tailed tr span name mark ty value)

    pub default_there : (old new : Draft) (m : Modifiers) (r span : Range) (name mark ty value v vs : Value)
        → value ≡ more v vs → DefaultMade x ts by old new m r name mark ty (expr_in v)
        → IfThere (Made x ts param_in (param_rule by) old new)
        (Param_of m r (typed_range ts name mark ty) span (marked_in name) mark ty value)
    default_there old new m r span name mark ty value v vs e h =
        subst (λ (value : Value). IfThere (Made x ts param_in (param_rule by) old new)
        (Param_of m r (typed_range ts name mark ty) span (marked_in name) mark ty value)) (sym e)
        (go (annotation_in ty) (marked_in name) (expr_in v) h)
      where
        go : (a : Option (Option TsPart)) (k : Option Marked) (o : Option Expr)
            → IfThere (λ k. IfThere (λ a. IfThere (λ e. (span : Range)
            → MadeOf x ts by old new m r (vPat.Assign (k (is_there mark) a (typed_range ts name mark ty)) e span)) o)
            a) k
            → IfThere (Made x ts param_in (param_rule by) old new) (option_map (param_by m r) (given a (λ ty_.
            given (marked_by k (is_there mark) ty_ (typed_range ts name mark ty)) (λ pat.
            given (option_map Some o) (λ value. Some (with_default span pat value))))))
        go None k o h = record { is = tt }
        go (Some a) None o h = record { is = tt }
        go (Some a) (Some k) None h = record { is = tt }
        go (Some a) (Some k) (Some e) h = record { is = h.is.is.is span }

    -- with a type and no default
    pub typed_there : (i : Item) (m : Modifiers) (r span : Range) (mark ty value w ws : Value) → value ≡ nil
        → ty ≡ more w ws
        → IfThere (λ it. (s : State) → param_rule by it s ≡ (it, s))
        (Param_of m r (typed_range ts (valued x ts i) mark ty) span (marked_in (valued x ts i)) mark ty value)
    typed_there i m r span mark ty value w ws none typed_ =
        subst (λ (value : Value). IfThere (λ it. (s : State) → param_rule by it s ≡ (it, s))
        (Param_of m r tr span (marked_in (valued x ts i)) mark ty value)) (sym none)
        (subst (λ (ty : Value). IfThere (λ it. (s : State) → param_rule by it s ≡ (it, s))
        (Param_of m r tr span (marked_in (valued x ts i)) mark ty nil)) (sym typed_)
        (go (type_at (more w ws) 0) (marked_in (valued x ts i)) (patterns.marked_there by x ts i)))
      where
        tr : Range
        tr = typed_range ts (valued x ts i) mark ty

        go : (a : Option TsType) (k : Option Marked) → IfThere (patterns.MarkedRule by) k
            → IfThere (λ it. (s : State) → param_rule by it s ≡ (it, s)) (option_map (param_by m r)
            (given (option_map (λ ty. option_map vPart.TypeAnn ty) (option_map Some a)) (λ ty_.
            given (marked_by k (is_there mark) ty_ tr) (λ pat. Some pat))))
        go None k rule = record { is = tt }
        go (Some a) None rule = record { is = tt }
        go (Some a) (Some k) rule = record {
          is = λ s.
              undefaulted m r (k (is_there mark) (Some (vPart.TypeAnn a)) tr) s
              (rule.is.undefaulted (is_there mark) (Some (vPart.TypeAnn a)) tr)
              ∙ ap (of m r) (rule.is.typed (is_there mark) (vPart.TypeAnn a) tr s);
        }

    -- without either
    pub any_there : (old new : Draft) (m : Modifiers) (r span : Range) (name mark ty value : Value) → value ≡ nil
        → ty ≡ nil
        → IfThere (λ k. MadeOf x ts by old new m r (k (is_there mark) None (typed_range ts name mark nil)))
        (marked_in name)
        → IfThere (Made x ts param_in (param_rule by) old new)
        (Param_of m r (typed_range ts name mark ty) span (marked_in name) mark ty value)
    any_there old new m r span name mark ty value none untyped h =
        subst (λ (value : Value). IfThere (Made x ts param_in (param_rule by) old new)
        (Param_of m r (typed_range ts name mark ty) span (marked_in name) mark ty value)) (sym none)
        (subst (λ (ty : Value). IfThere (Made x ts param_in (param_rule by) old new)
        (Param_of m r (typed_range ts name mark ty) span (marked_in name) mark ty nil)) (sym untyped)
        (go (marked_in name) h))
      where
        go : (k : Option Marked)
            → IfThere (λ k. MadeOf x ts by old new m r (k (is_there mark) None (typed_range ts name mark nil))) k
            → IfThere (Made x ts param_in (param_rule by) old new) (option_map (param_by m r)
            (given (marked_by k (is_there mark) None (typed_range ts name mark nil)) (λ pat. Some pat)))
        go None h = record { is = tt }
        go (Some k) h = record { is = h.is }

    -- ---- arrays and objects stay
    abbrev Stays : Marked → Type 0
    Stays k =
        ((b : Bool) (a : Option TsPart) (r : Range) (s : State) → pat_rule by (k b a r) s ≡ (k b a r, s))
        × ((b : Bool) (a : Option TsPart) (r : Range) → rules.is_name by (out-Pat (k b a r)) ≡ false)

    pub bare_stays : (m : Modifiers) (r span : Range) (i : Item) (mark ty value : Value) → value ≡ nil → ty ≡ nil
        → IfThere Stays (marked_in (valued x ts i))
        → IfThere (λ it. (s : State) → param_rule by it s ≡ (it, s))
        (Param_of m r (typed_range ts (valued x ts i) mark ty) span (marked_in (valued x ts i)) mark ty value)
    bare_stays m r span i mark ty value none untyped h =
        subst (λ (value : Value). IfThere (λ it. (s : State) → param_rule by it s ≡ (it, s))
        (Param_of m r tr span (marked_in (valued x ts i)) mark ty value)) (sym none)
        (subst (λ (ty : Value). IfThere (λ it. (s : State) → param_rule by it s ≡ (it, s))
        (Param_of m r tr span (marked_in (valued x ts i)) mark ty nil)) (sym untyped)
        (go (marked_in (valued x ts i)) h (patterns.marked_there by x ts i)))
      where
        tr : Range
        tr = typed_range ts (valued x ts i) mark ty

        go : (k : Option Marked) → IfThere Stays k → IfThere (patterns.MarkedRule by) k
            → IfThere (λ it. (s : State) → param_rule by it s ≡ (it, s)) (option_map (param_by m r)
            (given (marked_by k (is_there mark) None tr) (λ pat. Some pat)))
        go None h rule = record { is = tt }
        go (Some k) h rule = record {
          is = λ s.
              undefaulted m r (k (is_there mark) None tr) s (rule.is.undefaulted (is_there mark) None tr)
              ∙ ap (of m r) (h.is.0 (is_there mark) None tr s);
        }

    assign_out : (left : Pat) (right : Expr) (span : Range) (b : Bool) → rules.is_name by (out-Pat left) ≡ b
        → rules.is_defaulted_pattern by (out-Pat (vPat.Assign left right span)) ≡ not b
    assign_out left right span b e =
        ap (rules.is_defaulted_pattern by) (ap out-Pat (sym (vPat.rolls-Assign left right span))
        ∙ out-roll-Pat (Pat-F.Pat::Assign left right span))
        ∙ ap not e

    -- a property with a default
    pub property_stays : (m : Modifiers) (r span : Range) (name mark ty value v vs : Value) (tr : Range)
        → value ≡ more v vs
        → rules.is_property by m ≡ true → NoName x ts by name
        → IfThere (λ it. (s : State) → param_rule by it s ≡ (it, s))
        (Param_of m r tr span (marked_in name) mark ty value)
    property_stays m r span name mark ty value v vs tr e p h =
        subst (λ (value : Value). IfThere (λ it. (s : State) → param_rule by it s ≡ (it, s))
        (Param_of m r tr span (marked_in name) mark ty value)) (sym e)
        (go (annotation_in ty) (marked_in name) (expr_in v) h)
      where
        go : (a : Option (Option TsPart)) (k : Option Marked) (o : Option Expr)
            → IfThere (λ (k : Marked). (b : Bool) (a : Option TsPart) (r : Range)
            → rules.is_name by (out-Pat (k b a r)) ≡ false) k
            → IfThere (λ it. (s : State) → param_rule by it s ≡ (it, s)) (option_map (param_by m r) (given a (λ ty_.
            given (marked_by k (is_there mark) ty_ tr) (λ pat.
            given (option_map Some o) (λ value. Some (with_default span pat value))))))
        go None k o h = record { is = tt }
        go (Some a) None o h = record { is = tt }
        go (Some a) (Some k) None h = record { is = tt }
        go (Some a) (Some k) (Some e) h = record {
          is = λ s.
              stays m r (vPat.Assign (k (is_there mark) a tr) e span) s
              (ap (λ (b : Bool). b && rules.is_defaulted_pattern by
              (out-Pat (vPat.Assign (k (is_there mark) a tr) e span))) p
              ∙ assign_out (k (is_there mark) a tr) e span false (h.is (is_there mark) a tr));
        }

    pub no_name : (v : Value) → IfThere Stays (marked_in v) → NoName x ts by v
    no_name v h = lifted (λ k s. s.1) h

    pub array_stays : (from : ℕ) (elems v : Value) → marked_in v ≡ marked_view.array ts from elems
        → IfThere Stays (marked_in v)
    unfolding marked_view.array
    array_stays from elems v e =
        subst (λ (o : Option Marked). IfThere Stays o) (sym e)
        (made_there Stays (λ elems mark ty r. vPat.Array elems mark ty r)
        (elements vPat.Hole pat_at ts (from + 1) elems)
        (λ elems. (
          λ b a r s. patterns.pat_array by elems b a r s,
          λ b a r.
              ap (rules.is_name by) (ap out-Pat (sym (vPat.rolls-Array elems b a r))
              ∙ out-roll-Pat (Pat-F.Pat::Array elems b a r)),
        )))

    pub object_stays : (props v : Value) → marked_in v ≡ marked_view.object props → IfThere Stays (marked_in v)
    unfolding marked_view.object
    object_stays props v e =
        subst (λ (o : Option Marked). IfThere Stays o) (sym e)
        (made_there Stays (λ props mark ty r. vPat.Object props mark ty r) (turns (λ turn. pat_prop_at turn 0) props)
        (λ props. (
          λ b a r s. patterns.pat_object by props b a r s,
          λ b a r.
              ap (rules.is_name by) (ap out-Pat (sym (vPat.rolls-Object props b a r))
              ∙ out-roll-Pat (Pat-F.Pat::Object props b a r)),
        )))

    -- a name with a default is no pattern with one
    pub named_default : (at : ℕ) (v : Value) → marked_in v ≡ marked_view.ident x (slice_get ts at)
        → IfThere (λ (k : Marked). (b : Bool) (a : Option TsPart) (r : Range) (e : Expr) (span : Range)
        → rules.is_defaulted_pattern by (out-Pat (vPat.Assign (k b a r) e span)) ≡ false) (marked_in v)
    unfolding marked_view.ident
    named_default at v is =
        subst (λ (o : Option Marked). IfThere (λ (k : Marked). (b : Bool) (a : Option TsPart) (r : Range) (e : Expr)
        (span : Range) → rules.is_defaulted_pattern by (out-Pat (vPat.Assign (k b a r) e span)) ≡ false) o) (sym is)
        (made_there _ (λ id mark ty r. vPat.Ident (type_texts.marked mark id) ty r)
        (option_map (ident_of x) (slice_get ts at)) (λ id b a r e span.
        assign_out (vPat.Ident (type_texts.marked b id) a r) e span true
        (ap (rules.is_name by) (ap out-Pat (sym (vPat.rolls-Ident (type_texts.marked b id) a r))
        ∙ out-roll-Pat (Pat-F.Pat::Ident (type_texts.marked b id) a r)))))

    pub named_changes : (row : Value) (at : ℕ) (v : Value) → marked_in v ≡ marked_view.ident x (slice_get ts at)
        → Changes x ts by row v
    named_changes row at v is = go (modifiers_in ts plain row)
      where
        go : (o : Option Modifiers)
            → IfSome o (λ m. IfThere
            (λ (k : Marked). (b : Bool) (a : Option TsPart) (r : Range) (e : Expr) (span : Range)
            → (rules.is_property by m && rules.is_defaulted_pattern by (out-Pat (vPat.Assign (k b a r) e span)))
            ≡ false)
            (marked_in v))
        go None = tt
        go (Some m) =
            lifted (λ k d b a r e span. ap (λ (c : Bool). rules.is_property by m && c) (d b a r e span)
            ∙ and_false (rules.is_property by m)) (named_default at v is)

    pub plain_changes : (row v : Value) (b : Bool)
        → IfSome (modifiers_in ts plain row) (λ m. rules.is_property by m ≡ b)
        → b ≡ false → Changes x ts by row v
    plain_changes row v b h none = go (modifiers_in ts plain row) h
      where
        each : (m : Modifiers) → rules.is_property by m ≡ b → (o : Option Marked)
            → IfThere (λ (k : Marked). (b : Bool) (a : Option TsPart) (r : Range) (e : Expr) (span : Range)
            → (rules.is_property by m && rules.is_defaulted_pattern by (out-Pat (vPat.Assign (k b a r) e span)))
            ≡ false) o
        each m is None = record { is = tt }
        each m is (Some k) = record {
          is = λ b a r e span.
              ap (λ (c : Bool). c && rules.is_defaulted_pattern by (out-Pat (vPat.Assign (k b a r) e span)))
              (is ∙ none);
        }

        go : (o : Option Modifiers) → IfSome o (λ m. rules.is_property by m ≡ b)
            → IfSome o (λ m. IfThere
            (λ (k : Marked). (b : Bool) (a : Option TsPart) (r : Range) (e : Expr) (span : Range)
            → (rules.is_property by m && rules.is_defaulted_pattern by (out-Pat (vPat.Assign (k b a r) e span)))
            ≡ false)
            (marked_in v))
        go None is = tt
        go (Some m) is = each m is (marked_in v)

    pub named_bare : (at : ℕ) (v : Value) → marked_in v ≡ marked_view.ident x (slice_get ts at)
        → IfThere (λ (k : Marked). (b : Bool) (a : Option TsPart) (r : Range)
        → rules.is_defaulted_pattern by (out-Pat (k b a r)) ≡ false) (marked_in v)
    unfolding marked_view.ident
    named_bare at v is =
        subst (λ (o : Option Marked). IfThere (λ (k : Marked). (b : Bool) (a : Option TsPart) (r : Range)
        → rules.is_defaulted_pattern by (out-Pat (k b a r)) ≡ false) o) (sym is)
        (made_there _ (λ id mark ty r. vPat.Ident (type_texts.marked mark id) ty r)
        (option_map (ident_of x) (slice_get ts at)) (λ id b a r.
        ap (rules.is_defaulted_pattern by) (ap out-Pat (sym (vPat.rolls-Ident (type_texts.marked b id) a r))
        ∙ out-roll-Pat (Pat-F.Pat::Ident (type_texts.marked b id) a r))))

    -- ---- nodes with a default
    pub default_marked : (old begun mid new : Draft) (place from to : ℕ) (name mark ty : Value) (right : Option Expr)
        → begun.row ≡ old.row ++ opened → place ≡ length old.row → state_of begun ≡ state_of old
        → DefaultTailed x ts by begun mid name mark ty right
        → new.row ≡ closed (change.Old (vWhat.Node l.MarkedParameter)) from to place mid.row
        → state_of new ≡ state_of mid → DefaultMade x ts by old new plain (span_of ts from to) name mark ty right
    default_marked old begun mid new place from to name mark ty right eo ep sb h en sn =
        lifted (λ m h. lifted (λ a h. lifted (λ e t span.
        marked_made (vPat.Assign (m (is_there mark) a (typed_range ts name mark ty)) e span) old begun mid new place
        from to
        eo ep sb (t span) en sn) h) h) h

    pub default_property : (old begun grouped mid new : Draft) (place from to : ℕ) (row name mark ty : Value)
        (right : Option Expr) → Changes x ts by row name → begun.row ≡ old.row ++ opened
        → place ≡ length old.row → KeptGroup x ts begun.row grouped.row row → state_of grouped ≡ state_of old
        → DefaultTailed x ts by grouped mid name mark ty right
        → new.row ≡ closed (change.Old (vWhat.Node l.PropertyParameter)) from to place mid.row
        → state_of new ≡ state_of mid
        → IfThere (λ m. DefaultMade x ts by old new m (span_of ts from to) name mark ty right)
        (modifiers_in ts plain row)
    default_property old begun grouped mid new place from to row name mark ty right changes eo ep g sb h en sn =
        go (modifiers_in ts plain row) refl changes
      where
        tr : Range
        tr = typed_range ts name mark ty

        each : (m : Modifiers) → modifiers_in ts plain row ≡ Some m → (k : Option Marked)
            → IfThere (λ (k : Marked). (b : Bool) (a : Option TsPart) (r : Range) (e : Expr) (span : Range)
            → (rules.is_property by m && rules.is_defaulted_pattern by (out-Pat (vPat.Assign (k b a r) e span)))
            ≡ false) k
            → IfThere (λ k. IfThere (λ a. IfThere (λ e. (span : Range)
            → TailMade x ts by grouped mid (vPat.Assign (k (is_there mark) a tr) e span)) right) (annotation_in ty)) k
            → IfThere (λ k. IfThere (λ a. IfThere (λ e. (span : Range)
            → MadeOf x ts by old new m (span_of ts from to) (vPat.Assign (k (is_there mark) a tr) e span)) right)
            (annotation_in ty)) k
        each m is None d h = record { is = tt }
        each m is (Some k) d h = record {
          is = lifted (λ a h. lifted (λ e t span.
              property_made (vPat.Assign (k (is_there mark) a tr) e span) old begun grouped mid new place from to row m
              is
              (d.is (is_there mark) a tr e span) eo ep g sb (t span) en sn) h) h.is;
        }

        go : (o : Option Modifiers) → modifiers_in ts plain row ≡ o
            → IfSome o (λ m. IfThere
            (λ (k : Marked). (b : Bool) (a : Option TsPart) (r : Range) (e : Expr) (span : Range)
            → (rules.is_property by m && rules.is_defaulted_pattern by (out-Pat (vPat.Assign (k b a r) e span)))
            ≡ false)
            (marked_in name)) → IfThere (λ m. DefaultMade x ts by old new m (span_of ts from to) name mark ty right) o
        go None is d = record { is = tt }
        go (Some m) is d = record { is = each m is (marked_in name) d h }

    -- ---- nodes of names without a type
    pub any_marked : (old begun mid new : Draft) (place from to at : ℕ) (name mark : Value)
        → begun.row ≡ old.row ++ opened → place ≡ length old.row → state_of begun ≡ state_of old
        → AnyTailed x ts by begun mid at name mark
        → new.row ≡ closed (change.Old (vWhat.Node l.MarkedParameter)) from to place mid.row
        → state_of new ≡ state_of mid → AnyMade x ts by old new plain (span_of ts from to) at name mark
    any_marked old begun mid new place from to at name mark eo ep sb h en sn same =
        lifted (λ m t.
        marked_made (m (is_there mark) None (typed_range ts name mark nil)) old begun mid new place from to eo ep sb t
        en
        sn) (h same)

    pub any_property : (old begun grouped mid new : Draft) (place from to at : ℕ) (row name mark : Value)
        → begun.row ≡ old.row ++ opened → place ≡ length old.row → KeptGroup x ts begun.row grouped.row row
        → state_of grouped ≡ state_of old → AnyTailed x ts by grouped mid at name mark
        → new.row ≡ closed (change.Old (vWhat.Node l.PropertyParameter)) from to place mid.row
        → state_of new ≡ state_of mid
        → IfThere (λ m. AnyMade x ts by old new m (span_of ts from to) at name mark) (modifiers_in ts plain row)
    any_property old begun grouped mid new place from to at row name mark eo ep g sb h en sn =
        go (modifiers_in ts plain row) refl
      where
        tr : Range
        tr = typed_range ts name mark nil

        each : (m : Modifiers) → modifiers_in ts plain row ≡ Some m → (k : Option Marked)
            → IfThere (λ (k : Marked). (b : Bool) (a : Option TsPart) (r : Range)
            → rules.is_defaulted_pattern by (out-Pat (k b a r)) ≡ false) k
            → IfThere (λ k. TailMade x ts by grouped mid (k (is_there mark) None tr)) k
            → IfThere (λ k. MadeOf x ts by old new m (span_of ts from to) (k (is_there mark) None tr)) k
        each m is None d h = record { is = tt }
        each m is (Some k) d h = record {
          is = property_made (k (is_there mark) None tr) old begun grouped mid new place from to row m is
              (ap (λ (c : Bool). rules.is_property by m && c) (d.is (is_there mark) None tr)
              ∙ and_false (rules.is_property by m)) eo ep g sb h.is en sn;
        }

        go : (o : Option Modifiers) → modifiers_in ts plain row ≡ o
            → IfThere (λ m. AnyMade x ts by old new m (span_of ts from to) at name mark) o
        go None is = record { is = tt }
        go (Some m) is = record { is = λ same. each m is (marked_in name) (named_bare at name same) (h same) }

    -- ---- patterns that span themselves
    own_range : (i : Item) → Own x ts i → (mark ty : Value) → mark ≡ nil → ty ≡ nil
        → typed_range ts (valued x ts i) mark ty ≡ span_of ts i.from i.to
    own_range i own mark ty em et =
        ap (λ (ty : Value). typed_range ts (valued x ts i) mark ty) et
        ∙ (ap (λ (mark : Value). typed_range ts (valued x ts i) mark nil) em
        ∙ (ap (λ (n : ℕ). span_of ts n (behind (valued x ts i))) own.from
        ∙ ap (λ (n : ℕ). span_of ts i.from n) own.ends))

    pub default_own : (old new : Draft) (i : Item) (r span : Range) (mark ty : Value) (right : Option Expr)
        → Own x ts i → mark ≡ nil → ty ≡ nil → DefaultMade x ts by old new plain r (valued x ts i) mark ty right
        → IfThere (λ k. IfThere (λ e. MadeOf x ts by old new plain r (vPat.Assign k e span)) right)
        (pat_in (valued x ts i))
    default_own old new i r span mark ty right own em et h =
        subst (λ (o : Option Pat). IfThere
        (λ k. IfThere (λ e. MadeOf x ts by old new plain r (vPat.Assign k e span)) right)
        o) (sym own.pairs)
        (go (marked_in (valued x ts i)) (subst Q et (subst R em h)))
      where
        tr : Range
        tr = typed_range ts (valued x ts i) mark ty

        R : Value → Type 0
        R m = IfThere (λ k. IfThere (λ a. IfThere (λ e. (span : Range)
            → MadeOf x ts by old new plain r (vPat.Assign (k (is_there m) a tr) e span)) right) (annotation_in ty))
            (marked_in (valued x ts i))

        Q : Value → Type 0
        Q t = IfThere (λ k. IfThere (λ a. IfThere (λ e. (span : Range)
            → MadeOf x ts by old new plain r (vPat.Assign (k false a tr) e span)) right) (annotation_in t))
            (marked_in (valued x ts i))

        go : (k : Option Marked)
            → IfThere (λ k. IfThere (λ a. IfThere (λ e. (span : Range)
            → MadeOf x ts by old new plain r (vPat.Assign (k false a tr) e span)) right) (annotation_in nil)) k
            → IfThere (λ k. IfThere (λ e. MadeOf x ts by old new plain r (vPat.Assign k e span)) right)
            (option_map (λ m. m false None (span_of ts i.from i.to)) k)
        go None h = record { is = tt }
        go (Some k) h = record {
          is = lifted (λ e t.
              subst (λ (q : Range). MadeOf x ts by old new plain r (vPat.Assign (k false None q) e span))
              (own_range i own mark ty em et) (t span)) h.is.is;
        }

    pub any_own : (old new : Draft) (i : Item) (r : Range) (at : ℕ) (mark : Value) → Own x ts i → mark ≡ nil
        → marked_in (valued x ts i) ≡ marked_view.ident x (slice_get ts at)
        → AnyMade x ts by old new plain r at (valued x ts i) mark
        → IfThere (Made x ts param_in (param_rule by) old new)
        (option_map (functions.param_of r) (pat_in (valued x ts i)))
    any_own old new i r at mark own em same h =
        subst (λ (o : Option Pat). IfThere (Made x ts param_in (param_rule by) old new)
        (option_map (functions.param_of r) o)) (sym own.pairs)
        (go (marked_in (valued x ts i)) (subst R em (h same)))
      where
        tr : Range
        tr = typed_range ts (valued x ts i) mark nil

        R : Value → Type 0
        R m = IfThere (λ k. MadeOf x ts by old new plain r (k (is_there m) None tr)) (marked_in (valued x ts i))

        go : (k : Option Marked) → IfThere (λ k. MadeOf x ts by old new plain r (k false None tr)) k
            → IfThere (Made x ts param_in (param_rule by) old new)
            (option_map (functions.param_of r) (option_map (λ m. m false None (span_of ts i.from i.to)) k))
        go None h = record { is = tt }
        go (Some k) h = record {
          is = subst (λ (q : Range). MadeOf x ts by old new plain r (k false None q))
              (own_range i own mark nil em refl) h.is;
        }

    -- ---- `a = b`
    pub default_is : (old new : Draft) (v : Value) (r span : Range) (left : Option Pat) (right : Option Expr)
        → param_in v ≡ default_param_of r span left right
        → IfThere (λ k. IfThere (λ e. MadeOf x ts by old new plain r (vPat.Assign k e span)) right) left
        → IfThere (Made x ts param_in (param_rule by) old new) (param_in v)
    default_is old new v r span left right is h =
        subst (λ (o : Option Param). IfThere (Made x ts param_in (param_rule by) old new) o) (sym is) (go left right h)
      where
        go : (left : Option Pat) (right : Option Expr)
            → IfThere (λ k. IfThere (λ e. MadeOf x ts by old new plain r (vPat.Assign k e span)) right) left
            → IfThere (Made x ts param_in (param_rule by) old new) (default_param_of r span left right)
        go None right h = record { is = tt }
        go (Some l) None h = record { is = tt }
        go (Some l) (Some e) h = record { is = h.is.is }

    default_stays : (r span : Range) (left : Option Pat) (right : Option Expr) → IfThere (IsOther by) left
        → IfThere (λ it. (s : State) → param_rule by it s ≡ (it, s)) (default_param_of r span left right)
    default_stays r span None right h = record { is = tt }
    default_stays r span (Some l) None h = record { is = tt }
    default_stays r span (Some l) (Some e) h = record {
      is = λ s.
          plain_ruled r (vPat.Assign l e span) s
          ∙ ap (of plain r) (patterns.pat_assign by l e span s ∙ h.is (vPat.Assign l e span) (shown_expr by e) s);
    }

    pub default_kept : (old new : Draft) (v : Value) (r span : Range) (left : Option Pat) (right : Option Expr)
        → param_in v ≡ default_param_of r span left right → IfThere (IsOther by) left
        → Writes x ts old.row new.row (v ∷ []) → state_of new ≡ state_of old
        → IfThere (Made x ts param_in (param_rule by) old new) (param_in v)
    default_kept old new v r span left right is h w sn =
        kept_there old new v (default_param_of r span left right) is w sn (default_stays r span left right h)

    pub rest_other : (v : Value) (r : Range) (arg : Option Pat) → pat_in v ≡ pat_view.rest r arg
        → IfThere (IsOther by) (pat_in v)
    unfolding pat_view.rest
    rest_other v r arg e =
        subst (λ (o : Option Pat). IfThere (IsOther by) o) (sym e)
        (made_there (IsOther by) (λ arg. vPat.Rest arg None r) arg (λ arg. patterns.other_rest by arg None r))

    pub target_other : (v : Value) (e : Option Expr) → pat_in v ≡ pat_view.target e → IfThere (IsOther by) (pat_in v)
    unfolding pat_view.target
    target_other v o e =
        subst (λ (o : Option Pat). IfThere (IsOther by) o) (sym e)
        (made_there (IsOther by) vPat.Expr o (λ it. patterns.other_expr by it))

    pub assign_other : (v : Value) (r : Range) (left : Option Pat) (right : Option Expr)
        → pat_in v ≡ pat_view.default r left right → IfThere (IsOther by) (pat_in v)
    unfolding pat_view.default
    assign_other v r left right e = subst (λ (o : Option Pat). IfThere (IsOther by) o) (sym e) (go left right)
      where
        go : (left : Option Pat) (right : Option Expr)
            → IfThere (IsOther by) (given left (λ left. given right (λ right. Some (vPat.Assign left right r))))
        go None right = record { is = tt }
        go (Some left) None = record { is = tt }
        go (Some left) (Some right) = record { is = patterns.other_assign by left right r }

    -- ---- `this`
    pub this_stays : (r : Range) (word ty value : Value)
        → IfThere (λ it. (s : State) → param_rule by it s ≡ (it, s)) (param_view.this ts r word ty value)
    unfolding param_view.this
    this_stays r word ty value = go (token_of ts word) (annotation_in ty) (optional expr_at value)
      where
        sp : Range
        sp = span_of ts (first_of word) (behind_in ty (behind word))

        go : (t : Option Token) (a : Option (Option TsPart)) (o : Option (Option Expr))
            → IfThere (λ it. (s : State) → param_rule by it s ≡ (it, s))
            (given t (λ t. given a (λ a. given o (λ value.
            Some (param_by plain r (with_default r (vPat.This a sp) value))))))
        go None a o = record { is = tt }
        go (Some t) None o = record { is = tt }
        go (Some t) (Some a) None = record { is = tt }
        go (Some t) (Some a) (Some None) = record {
          is = λ s. plain_ruled r (vPat.This a sp) s ∙ ap (of plain r) (patterns.pat_this by a sp s);
        }
        go (Some t) (Some a) (Some (Some e)) = record {
          is = λ s.
              plain_ruled r (vPat.Assign (vPat.This a sp) e r) s
              ∙ ap (of plain r) (patterns.pat_assign by (vPat.This a sp) e r s
              ∙ patterns.other_this by a sp (vPat.Assign (vPat.This a sp) e r) (shown_expr by e) s);
        }

    -- ---- patterns alone
    abbrev PatStays : Pat → Type 0
    PatStays p = (s : State) → pat_rule by p s ≡ (p, s)

    pub pat_stays : (r : Range) (o : Option Pat) → IfThere PatStays o
        → IfThere (λ it. (s : State) → param_rule by it s ≡ (it, s)) (option_map (functions.param_of r) o)
    pat_stays r None h = record { is = tt }
    pat_stays r (Some p) h = record { is = λ s. plain_ruled r p s ∙ ap (of plain r) (h.is s) }

    pub array_alone : (v : Value) (r : Range) (from : ℕ) (elems : Value) → pat_in v ≡ pat_view.array ts r from elems
        → IfThere PatStays (pat_in v)
    unfolding pat_view.array
    array_alone v r from elems e =
        subst (λ (o : Option Pat). IfThere PatStays o) (sym e)
        (made_there PatStays (λ elems. vPat.Array elems false None r) (elements vPat.Hole pat_at ts (from + 1) elems)
        (λ elems s. patterns.pat_array by elems false None r s))

    pub object_alone : (v : Value) (r : Range) (props : Value) → pat_in v ≡ pat_view.object r props
        → IfThere PatStays (pat_in v)
    unfolding pat_view.object
    object_alone v r props e =
        subst (λ (o : Option Pat). IfThere PatStays o) (sym e)
        (made_there PatStays (λ props. vPat.Object props false None r) (turns (λ turn. pat_prop_at turn 0) props)
        (λ props s. patterns.pat_object by props false None r s))

    pub rest_alone : (v : Value) (r : Range) (arg : Option Pat) → pat_in v ≡ pat_view.rest r arg
        → IfThere PatStays (pat_in v)
    unfolding pat_view.rest
    rest_alone v r arg e =
        subst (λ (o : Option Pat). IfThere PatStays o) (sym e)
        (made_there PatStays (λ arg. vPat.Rest arg None r) arg (λ arg s. patterns.pat_rest by arg None r s))

    pub target_alone : (v : Value) (e : Option Expr) → pat_in v ≡ pat_view.target e → IfThere PatStays (pat_in v)
    unfolding pat_view.target
    target_alone v o e =
        subst (λ (o : Option Pat). IfThere PatStays o) (sym e)
        (made_there PatStays vPat.Expr o (λ it s. patterns.pat_expr by it s))

    pub kept_pattern : (old new : Draft) (v w : Value) (r : Range)
        → param_in v ≡ option_map (functions.param_of r) (pat_in w) → IfThere PatStays (pat_in w)
        → Writes x ts old.row new.row (v ∷ []) → state_of new ≡ state_of old
        → IfThere (Made x ts param_in (param_rule by) old new) (param_in v)
    kept_pattern old new v w r is h w_ sn =
        kept_there old new v (option_map (functions.param_of r) (pat_in w)) is w_ sn (pat_stays r (pat_in w) h)

    -- a pattern with a default
    pub default_pattern : (v w : Value) (r span : Range) (left : Option Pat) (right : Option Expr)
        → param_in v ≡ option_map (functions.param_of r) (pat_in w) → pat_in w ≡ pat_view.default span left right
        → param_in v ≡ default_param_of r span left right
    unfolding pat_view.default
    default_pattern v w r span left right is e =
        is ∙ (ap (option_map (functions.param_of r)) e ∙ go left right)
      where
        go : (left : Option Pat) (right : Option Expr)
            → option_map (functions.param_of r)
            (given left (λ left. given right (λ right. Some (vPat.Assign left right span))))
            ≡ default_param_of r span left right
        go None right = refl
        go (Some left) None = refl
        go (Some left) (Some right) = refl

    pub default_parameter : (v : Value) (r : Range) (left : Option Pat) (right : Option Expr)
        → param_in v ≡ param_view.default r left right → param_in v ≡ default_param_of r r left right
    unfolding param_view.default
    default_parameter v r left right is = is

    -- ---- after modifiers
    pub property_kept : (old new : Draft) (v : Value) (r span : Range) (row name mark ty value : Value)
        → param_in v ≡ given (modifiers_in ts plain row)
        (λ m. Param_of m r (typed_range ts name mark ty) span (marked_in name) mark ty value)
        → IfThere (λ m. IfThere (λ it. (s : State) → param_rule by it s ≡ (it, s))
        (Param_of m r (typed_range ts name mark ty) span (marked_in name) mark ty value)) (modifiers_in ts plain row)
        → Writes x ts old.row new.row (v ∷ []) → state_of new ≡ state_of old
        → IfThere (Made x ts param_in (param_rule by) old new) (param_in v)
    property_kept old new v r span row name mark ty value is h w sn =
        kept_there old new v _ is w sn (go (modifiers_in ts plain row) h)
      where
        go : (o : Option Modifiers) → IfThere (λ m. IfThere (λ it. (s : State) → param_rule by it s ≡ (it, s))
            (Param_of m r (typed_range ts name mark ty) span (marked_in name) mark ty value)) o
            → IfThere (λ it. (s : State) → param_rule by it s ≡ (it, s)) (given o
            (λ m. Param_of m r (typed_range ts name mark ty) span (marked_in name) mark ty value))
        go None h = record { is = tt }
        go (Some m) h = h.is

    pub property_is : (old new : Draft) (v : Value) (r span : Range) (row name mark ty value : Value)
        → param_in v ≡ given (modifiers_in ts plain row)
        (λ m. Param_of m r (typed_range ts name mark ty) span (marked_in name) mark ty value)
        → IfThere (λ m. IfThere (Made x ts param_in (param_rule by) old new)
        (Param_of m r (typed_range ts name mark ty) span (marked_in name) mark ty value)) (modifiers_in ts plain row)
        → IfThere (Made x ts param_in (param_rule by) old new) (param_in v)
    property_is old new v r span row name mark ty value is h =
        subst (λ (o : Option Param). IfThere (Made x ts param_in (param_rule by) old new) o) (sym is)
        (go (modifiers_in ts plain row) h)
      where
        go : (o : Option Modifiers) → IfThere (λ m. IfThere (Made x ts param_in (param_rule by) old new)
            (Param_of m r (typed_range ts name mark ty) span (marked_in name) mark ty value)) o
            → IfThere (Made x ts param_in (param_rule by) old new) (given o
            (λ m. Param_of m r (typed_range ts name mark ty) span (marked_in name) mark ty value))
        go None h = record { is = tt }
        go (Some m) h = h.is

    -- for any modifiers
    pub any_modifiers : {P : Modifiers → Type 0} (o : Option Modifiers) → ((m : Modifiers) → P m) → IfThere P o
    any_modifiers None h = record { is = tt }
    any_modifiers (Some m) h = record { is = h m }

    pub with_property : {P : Modifiers → Type 0} (o : Option Modifiers)
        → IfSome o (λ m. rules.is_property by m ≡ true)
        → ((m : Modifiers) → rules.is_property by m ≡ true → P m) → IfThere P o
    with_property None is h = record { is = tt }
    with_property (Some m) is h = record { is = h m is }

    -- ---- the forms of a view
    pub marked_form : (o : Option Param) (r tr span : Range) (name : Option Marked) (mark ty value : Value)
        → o ≡ param_view.marked r tr span name mark ty value → o ≡ Param_of plain r tr span name mark ty value
    unfolding param_view.marked
    marked_form o r tr span name mark ty value e = e

    pub property_form : (o : Option Param) (r tr span : Range) (row : Value) (name : Option Marked)
        (mark ty value : Value)
        → o ≡ param_view.property ts r tr span row name mark ty value
        → o ≡ given (modifiers_in ts plain row) (λ m. Param_of m r tr span name mark ty value)
    unfolding param_view.property
    property_form o r tr span row name mark ty value e = e
