-- What the elements of an array add, one by one.
use Rattle.std.specs.Prelude.{ℕ, Bool, true, false, List, [], ◌∷◌, ◌++◌, length, take, Option, Some, None, option_map, map, fold, IfSome}
use Rattle.std.proofs.Common.{◌≡◌, refl, sym, ap, subst, ◌∙◌}
use Rattle.std.proofs.lemmas.Bool.{true≢false}
use Rattle.base.specs.declared.range.Range.{Range}
use Rattle.es_token.specs.declared.token.Token.{Token}
use Rattle.es_ast.specs.declared.ts.ts.TsTupleElement.{TsTupleElement}
use Rattle.es_ast.specs.declared.ts.ts.TsType.{TsType}
use Rattle.es_ast.specs.declared.ast.Expr.{Expr}
use Rattle.es_ast.specs.declared.ast.Expr.TheVariants as vExpr
use Rattle.es_ast.specs.declared.ast.ClassMember.TheOpen.{Expr-F}
use Rattle.es_lowering.specs.Value.{Value, nil, more, given, as_group, group, expr_at}
use Rattle.es_lowering.specs.Expressions.{element_of, elements, behind_element}
use Rattle.es_lowering.specs.Lowering.{packed}
use Rattle.es_lowering.specs.Texts.{ident_of, span_of}
use Rattle.es_syntax.specs.Roles.{element_in, expr_in, ts_type_in}
use Rattle.es_changed.specs.declared.entry.Change.TheVariants as change
use Rattle.es_changed.specs.declared.entry.Form.{Form}
use Rattle.es_changed.specs.declared.entry.Form.TheVariants as form
use Rattle.es_changed.specs.declared.entry.Word.TheVariants as word
use Rattle.es_changed.specs.declared.entry.ChangedEntry.{ChangedEntry}
use Rattle.es_changed.specs.Formed.{formed, word_type}
use Rattle.es_changed.specs.Changed.{type_node}
use Rattle.es_changed.specs.Shape.{closed, opened, Writes}
use Rattle.es_changed.proofs.Written.{nothing_written, both_written, form_written, taken_open}
use Rattle.es_view_expressions.specs.expr.Primary as primary
use Rattle.dts_rules.specs.declared.found.FoundKind.TheVariants as kind
use Rattle.dts_rules.specs.Made.{any_type}
use Rattle.dts_rules.specs.Rules as rules
use Rattle.dts_rules.specs.Rules.{Shown, Sort, State, note, element, element_step, element_more, or_any, plain_more, rest_more}
use Rattle.dts_rules.specs.Programs.{shown_expr}
use Rattle.dts_draft.specs.declared.draft.Draft.{Draft}
use Rattle.dts_draft.specs.Drafts.{state_of}
use Rattle.dts_draft.specs.Written.{IfThere, Puts, PutsAll}
use Rattle.dts_draft.proofs.Lists.{puts_none, puts_both}
use Rattle.es_expr_spans.specs.Spans.{expr_span}
use Rattle.dts_leaves.proofs.Shown.{shown_by}
use Rattle.dts_operands.proofs.Forms.{span_is, plain_forms, plain_leant, restless_forms, restless_leant}
use Rattle.dts_operands.proofs.LeafLemmas.{expr_place}
use Rattle.dts_types.proofs.TypeLemmas.{answers_given, answers_none}
use Rattle.dts_operands.specs.Labels.{resting, spreading}
use Rattle.dts_names.specs.Names.{IsArrayName}
use Rattle.es_grammar.specs.declared.rows.NodeKind.{NodeKind}
use Rattle.es_lowering.specs.Lowering.{build}
use Rattle.es_syntax.specs.declared.entry.Lean.{Lean}
use Rattle.es_syntax.specs.declared.entry.What.TheVariants as vWhat
use Rattle.es_syntax.specs.declared.cursor.Item.{Item}
use Rattle.es_syntax.specs.Held.{parts_of, valued}
use Rattle.es_syntax.specs.Views.{is_one_of}
use Rattle.dts_draft.proofs.There.{lifted, mapped}
use Rattle.dts_types.specs.declared.ask.Ask.{Ask}
use Rattle.dts_types.specs.Types.{Answers, Rests, Has, Steps, OrAny, IsPlain}

module _ (env : rules.Env) (x : List ℕ) (ts : List Token) where
  -- ---- one element more
  one_more : (row mid new : List ChangedEntry) (els : List TsTupleElement) (v : Value) (el : TsTupleElement)
      → PutsAll x ts element_in row mid els → Writes x ts mid new (v ∷ []) → element_in v ≡ Some el
      → PutsAll x ts element_in row new (els ++ el ∷ [])
  one_more row mid new els v el p w e =
      puts_both x ts element_in row mid new els (el ∷ []) p
      (record { values = v ∷ []; writes = w; are = ap (λ (o : Option TsTupleElement). o ∷ []) e })

  abbrev form_of : Bool → Form
  form_of true = form.Rest
  form_of false = form.Element

  -- a type that is closed as an element
  as_element : (rest : Bool) (old begun mid new : List ChangedEntry) (place : ℕ) (ty : TsType) → begun ≡ old ++ opened
      → place ≡ length old → Puts x ts ts_type_in begun mid ty
      → new ≡ closed (change.Form (form_of rest)) 0 0 place mid → Puts x ts element_in old new (element rest ty)
  as_element true old begun mid new place ty eo ep p w = record {
    value = formed x ts form.Rest 0 0 (packed (p.value ∷ []));
    writes = form_written x ts form.Rest 0 0 place old begun mid new (p.value ∷ []) eo ep p.writes w;
    is = ap (option_map (element true)) p.is;
  }
  as_element false old begun mid new place ty eo ep p w = record {
    value = formed x ts form.Element 0 0 (packed (p.value ∷ []));
    writes = form_written x ts form.Element 0 0 place old begun mid new (p.value ∷ []) eo ep p.writes w;
    is = ap (option_map (element false)) p.is;
  }

  -- ---- holes
  hole_shown : (span : Range) → (shown_expr env (vExpr.Hole span)).sort ≡ Sort.hole
  hole_shown span =
      ap (λ (k : Shown). k.sort) (shown_by env _ (Expr-F.Expr::Hole span) (vExpr.rolls-Hole span))

  by_hole : (c r : Bool) (els : List TsTupleElement) (s : State) (k : Shown) → k.sort ≡ Sort.hole
      → element_more c r els s k.sort k ≡ (Some (els ++ element false any_type ∷ []), s)
  by_hole c r els s k e = ap (λ (sort : Sort). element_more c r els s sort k) e

  pub hole_steps : (ask : Ask) (old new : Draft) (at : ℕ) (g : Value) → g ≡ nil → state_of new ≡ state_of old
      → Writes x ts old.row new.row
      (formed x ts form.Element 0 0 (packed (type_node 0 0 (Some (word_type word.Any)) ∷ [])) ∷ [])
      → IfThere (Steps x ts env ask old new true) (element_of vExpr.Hole expr_at ts at g)
  hole_steps ask old new at g e s w =
      subst (λ (g : Value). IfThere (Steps x ts env ask old new true) (element_of vExpr.Hole expr_at ts at g)) (sym e)
      (record { is = steps })
    where
      steps : Steps x ts env ask old new true (vExpr.Hole (span_of ts at at))
      steps row (Some els, st) h =
          subst (Has x ts row new true)
          (sym (by_hole ask.literal ask.readonly els st (shown_expr env (vExpr.Hole (span_of ts at at)))
          (hole_shown (span_of ts at at))))
          (refl, s ∙ h.1, one_more row old.row new.row els _ (element false any_type) h.2 w refl)
      steps row (None, st) h = absurd (true≢false h.0)

  pub element_steps : (ask : Ask) (old new : Draft) (going : Bool) (g u us : Value) (at : ℕ) → g ≡ more u us
      → IfThere (Steps x ts env ask old new going) (expr_in u)
      → IfThere (Steps x ts env ask old new going) (element_of vExpr.Hole expr_at ts at g)
  element_steps ask old new going g u us at e h =
      subst (λ (g : Value). IfThere (Steps x ts env ask old new going) (element_of vExpr.Hole expr_at ts at g)) (sym e)
      h

  -- ---- `...a`
  spread_by : (arg : Expr) (span : Range) (c r : Bool) (els : List TsTupleElement) (s : State)
      → element_more c r els s (shown_expr env (vExpr.Spread arg span)).sort (shown_expr env (vExpr.Spread arg span))
      ≡ rest_more els span ((shown_expr env arg).rest c s)
  spread_by arg span c r els s =
      ap (λ (k : Shown). element_more c r els s k.sort k)
      (shown_by env _ (Expr-F.Expr::Spread arg span) (vExpr.rolls-Spread arg span))

  steps_by_rest : (ask : Ask) (old begun mid new : Draft) (place : ℕ) (span : Range) (o : Option Expr)
      → begun.row ≡ old.row ++ opened → place ≡ length old.row → state_of begun ≡ state_of old
      → IfThere (Rests x ts env ask.literal begun mid true) o
      → new.row ≡ closed (change.Form form.Rest) 0 0 place mid.row → state_of new ≡ state_of mid
      → IfThere (Steps x ts env ask old new true) (primary.spread span o)
  unfolding primary.spread
  steps_by_rest ask old begun mid new place span None eo ep sb a c sn = record { is = tt }
  steps_by_rest ask old begun mid new place span (Some arg) eo ep sb a c sn = record { is = steps }
    where
      fin : (row : List ChangedEntry) (els : List TsTupleElement) → PutsAll x ts element_in row old.row els
          → (t : Option TsType × State) → Answers x ts begun mid true t → Has x ts row new true (rest_more els span t)
      fin row els p (Some ty, s) a =
          let el = as_element true old.row begun.row mid.row new.row place ty eo ep a.2 c in
          (refl, sn ∙ a.1, one_more row old.row new.row els el.value (element true ty) p el.writes el.is)
      fin row els p (None, s) a = absurd (true≢false a.0)

      steps : Steps x ts env ask old new true (vExpr.Spread arg span)
      steps row (Some els, st) h =
          subst (Has x ts row new true) (sym (spread_by arg span ask.literal ask.readonly els st))
          (fin row els h.2 ((shown_expr env arg).rest ask.literal st)
          (subst (λ (s : State). Answers x ts begun mid true ((shown_expr env arg).rest ask.literal s)) (sb ∙ h.1)
          a.is))
      steps row (None, st) h = absurd (true≢false h.0)

  -- without a type it ends the array
  ends_by_rest : (ask : Ask) (old begun mid new : Draft) (place : ℕ) (span : Range) (o : Option Expr)
      → begun.row ≡ old.row ++ opened → place ≡ length old.row → state_of begun ≡ state_of old
      → IfThere (Rests x ts env ask.literal begun mid false) o → new.row ≡ take place mid.row
      → state_of new ≡ note kind.UnableToInferTypeFromSpread span (state_of mid)
      → IfThere (Steps x ts env ask old new false) (primary.spread span o)
  unfolding primary.spread
  ends_by_rest ask old begun mid new place span None eo ep sb a c sn = record { is = tt }
  ends_by_rest ask old begun mid new place span (Some arg) eo ep sb a c sn = record { is = steps }
    where
      fin : (row : List ChangedEntry) (els : List TsTupleElement) → PutsAll x ts element_in row old.row els
          → (t : Option TsType × State) → Answers x ts begun mid false t → Has x ts row new false (rest_more els span t)
      fin row els p (Some ty, s) a = absurd (true≢false (sym a.0))
      fin row els p (None, s) a = (
        refl,
        sn ∙ ap (note kind.UnableToInferTypeFromSpread span) a.1,
        record {
          values = p.values;
          writes = subst (λ (es : List ChangedEntry). Writes x ts row es p.values)
              (sym (c ∙ taken_open x ts place old.row begun.row mid.row [] eo ep a.2)) p.writes;
        },
      )

      steps : Steps x ts env ask old new false (vExpr.Spread arg span)
      steps row (Some els, st) h =
          subst (Has x ts row new false) (sym (spread_by arg span ask.literal ask.readonly els st))
          (fin row els h.2 ((shown_expr env arg).rest ask.literal st)
          (subst (λ (s : State). Answers x ts begun mid false ((shown_expr env arg).rest ask.literal s)) (sb ∙ h.1)
          a.is))
      steps row (None, st) h = absurd (true≢false h.0)

  pub rest_steps : (ask : Ask) (old begun mid new : Draft) (place : ℕ) (span : Range) (b : Bool) (o : Option Expr)
      → begun.row ≡ old.row ++ opened → place ≡ length old.row → state_of begun ≡ state_of old → b ≡ true
      → IfThere (Rests x ts env ask.literal begun mid b) o
      → new.row ≡ closed (change.Form form.Rest) 0 0 place mid.row → state_of new ≡ state_of mid
      → IfThere (Steps x ts env ask old new true) (primary.spread span o)
  rest_steps ask old begun mid new place span b o eo ep sb e a c sn =
      steps_by_rest ask old begun mid new place span o eo ep sb
      (subst (λ (b : Bool). IfThere (Rests x ts env ask.literal begun mid b) o) e a) c sn

  pub rest_ends : (ask : Ask) (old begun mid back new : Draft) (place : ℕ) (span range : Range) (b : Bool)
      (o : Option Expr) → begun.row ≡ old.row ++ opened → place ≡ length old.row → state_of begun ≡ state_of old
      → b ≡ false → IfThere (Rests x ts env ask.literal begun mid b) o → back.row ≡ take place mid.row
      → state_of back ≡ state_of mid → new.row ≡ back.row
      → state_of new ≡ note kind.UnableToInferTypeFromSpread range (state_of back) → range ≡ span
      → IfThere (Steps x ts env ask old new false) (primary.spread span o)
  rest_ends ask old begun mid back new place span range b o eo ep sb e a t st er sn es =
      ends_by_rest ask old begun mid new place span o eo ep sb
      (subst (λ (b : Bool). IfThere (Rests x ts env ask.literal begun mid b) o) e a) (er ∙ t)
      (sn ∙ (ap (note kind.UnableToInferTypeFromSpread range) st
      ∙ ap (λ (q : Range). note kind.UnableToInferTypeFromSpread q (state_of mid)) es))

  -- ---- what is behind `...`
  no_rest : (literal : Bool) (old : Draft) (o : Option Expr)
      → IfThere (λ e. (c : Bool) (s : State) → (shown_expr env e).rest c s ≡ (None, s)) o
      → IfThere (Rests x ts env literal old old false) o
  no_rest literal old o h =
      lifted (λ e n. answers_none x ts old ((shown_expr env e).rest literal (state_of old)) (n literal (state_of old)))
      h

  pub no_rest_node : (literal : Bool) (old : Draft) (i : Item) (label : NodeKind) → i.what ≡ vWhat.Node label
      → is_one_of resting label ≡ false → IfThere (Rests x ts env literal old old false) (expr_in (valued x ts i))
  unfolding build
  no_rest_node literal old i label is h =
      no_rest literal old _ (expr_place _ x ts i (vWhat.Node label) is
      (restless_forms env x ts label i.from (span_of ts i.from i.to) i.parts.entries.now h))

  pub no_rest_lean : (literal : Bool) (old : Draft) (i : Item) (lean : Lean) → i.what ≡ vWhat.Lean lean
      → IfThere (Rests x ts env literal old old false) (expr_in (valued x ts i))
  no_rest_lean literal old i lean is =
      no_rest literal old _ (expr_place _ x ts i (vWhat.Lean lean) is
      (restless_leant env x ts lean i.from (parts_of x ts i.parts.entries.now)))

  pub name_rests : (literal : Bool) (old new : Draft) (wrote : Bool) (o : Option Token) → state_of new ≡ state_of old
      → IfThere (IsArrayName env x ts old.row new.row wrote) o
      → IfThere (Rests x ts env literal old new wrote) (primary.ident x o)
  unfolding primary.ident
  name_rests literal old new wrote o sn h =
      mapped (IsArrayName env x ts old.row new.row wrote) (Rests x ts env literal old new wrote)
      (λ t. vExpr.Ident (ident_of x t)) o
      (λ t g. subst (Answers x ts old new wrote)
      (sym (ap (λ (k : Shown). k.rest literal (state_of old))
      (shown_by env _ (Expr-F.Expr::Ident (ident_of x t)) (vExpr.rolls-Ident (ident_of x t)))))
      (answers_given x ts old new wrote _ (state_of old) sn g)) h

  -- ---- any other element, which is neither
  plain_by : (c r : Bool) (els : List TsTupleElement) (s : State) (k : Shown) → k.sort ≡ Sort.plain
      → element_more c r els s k.sort k ≡ plain_more els (or_any kind.UnableToInferType k.span (k.rule c r s))
  plain_by c r els s k e = ap (λ (sort : Sort). element_more c r els s sort k) e

  pub plain_steps : (ask : Ask) (old begun mid new : Draft) (place : ℕ) (range : Range) (o : Option Expr)
      → begun.row ≡ old.row ++ opened → place ≡ length old.row → state_of begun ≡ state_of old
      → IfSome o (λ e. range ≡ expr_span e) → IfThere (OrAny x ts env kind.UnableToInferType range ask begun mid) o
      → new.row ≡ closed (change.Form form.Element) 0 0 place mid.row → state_of new ≡ state_of mid
      → IfThere (λ e. IsPlain env e → Steps x ts env ask old new true e) o
  plain_steps ask old begun mid new place range None eo ep sb es a c sn = record { is = tt }
  plain_steps ask old begun mid new place range (Some e) eo ep sb es a c sn = record { is = λ is_plain. steps is_plain }
    where
      same : or_any kind.UnableToInferType range ((shown_expr env e).rule ask.literal ask.readonly (state_of begun))
          ≡ or_any kind.UnableToInferType (shown_expr env e).span
          ((shown_expr env e).rule ask.literal ask.readonly (state_of old))
      same =
          ap (λ (q : Range). or_any kind.UnableToInferType q
          ((shown_expr env e).rule ask.literal ask.readonly (state_of begun))) (es ∙ sym (span_is env e))
          ∙ ap (λ (s : State). or_any kind.UnableToInferType (shown_expr env e).span
          ((shown_expr env e).rule ask.literal ask.readonly s)) sb

      fin : (row : List ChangedEntry) (els : List TsTupleElement) → PutsAll x ts element_in row old.row els
          → (p : TsType × State)
          → or_any kind.UnableToInferType range ((shown_expr env e).rule ask.literal ask.readonly (state_of begun)) ≡ p
          → Has x ts row new true (plain_more els p)
      fin row els p q is =
          let el = as_element false old.row begun.row mid.row new.row place q.0 eo ep
          (subst (λ (ty : TsType). Puts x ts ts_type_in begun.row mid.row ty) (ap (λ (q : TsType × State). q.0) is)
          a.is.puts) c in (
            refl,
            sn ∙ (a.is.state ∙ ap (λ (q : TsType × State). q.1) is),
            one_more row old.row new.row els el.value (element false q.0) p el.writes el.is,
          )

      steps : IsPlain env e → Steps x ts env ask old new true e
      steps is_plain row (Some els, st) h =
          subst (Has x ts row new true) (sym (plain_by ask.literal ask.readonly els st (shown_expr env e) is_plain))
          (fin row els h.2 (or_any kind.UnableToInferType (shown_expr env e).span
          ((shown_expr env e).rule ask.literal ask.readonly st)) (same ∙ ap (λ (s : State).
          or_any kind.UnableToInferType (shown_expr env e).span ((shown_expr env e).rule ask.literal ask.readonly s))
          h.1))
      steps is_plain row (None, st) h = absurd (true≢false h.0)

  -- by where it stands
  plain_there : (ask : Ask) (old new : Draft) (o : Option Expr)
      → IfThere (λ e. (shown_expr env e).sort ≡ Sort.plain) o
      → IfThere (λ e. IsPlain env e → Steps x ts env ask old new true e) o → IfThere (Steps x ts env ask old new true) o
  plain_there ask old new None p h = record { is = tt }
  plain_there ask old new (Some e) p h = record { is = h.is p.is }

  pub plain_node : (ask : Ask) (old new : Draft) (i : Item) (label : NodeKind) → i.what ≡ vWhat.Node label
      → is_one_of spreading label ≡ false
      → IfThere (λ e. IsPlain env e → Steps x ts env ask old new true e) (expr_in (valued x ts i))
      → IfThere (Steps x ts env ask old new true) (expr_in (valued x ts i))
  unfolding build
  plain_node ask old new i label is n h =
      plain_there ask old new _ (expr_place _ x ts i (vWhat.Node label) is
      (plain_forms env x ts label i.from (span_of ts i.from i.to) i.parts.entries.now n)) h

  pub plain_lean : (ask : Ask) (old new : Draft) (i : Item) (lean : Lean) → i.what ≡ vWhat.Lean lean
      → IfThere (λ e. IsPlain env e → Steps x ts env ask old new true e) (expr_in (valued x ts i))
      → IfThere (Steps x ts env ask old new true) (expr_in (valued x ts i))
  plain_lean ask old new i lean is h =
      plain_there ask old new _ (expr_place _ x ts i (vWhat.Lean lean) is
      (plain_leant env x ts lean i.from (parts_of x ts i.parts.entries.now))) h
