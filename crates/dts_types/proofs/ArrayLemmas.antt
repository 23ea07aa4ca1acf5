-- The types of arrays, from what their elements add.
use Rattle.std.specs.Prelude.{ℕ, ◌+◌, ◌||◌, Bool, true, false, List, [], ◌∷◌, ◌++◌, length, take, Option, Some, None, option_map, map, fold, IfSome}
use Rattle.std.proofs.Common.{◌≡◌, refl, sym, ap, subst, ◌∙◌}
use Rattle.std.proofs.lemmas.Bool.{true≢false}
use Rattle.base.specs.declared.range.Range.{Range}
use Rattle.es_token.specs.declared.token.Token.{Token}
use Rattle.es_ast.specs.declared.ts.leaf.TsTypeOperatorOp.TheVariants as operator
use Rattle.es_ast.specs.declared.ts.ts.TsTupleElement.{TsTupleElement}
use Rattle.es_ast.specs.declared.ts.ts.TsType.{TsType, out-TsType, out-roll-TsType}
use Rattle.es_ast.specs.declared.ts.ts.TsType.TheOpen.{TsType-F}
use Rattle.es_ast.specs.declared.ts.ts.TsType.TheVariants as vType
use Rattle.es_ast.specs.declared.ast.Expr.{Expr}
use Rattle.es_ast.specs.declared.ast.Expr.TheVariants as vExpr
use Rattle.es_ast.specs.declared.ast.ClassMember.TheOpen.{Expr-F}
use Rattle.es_lowering.specs.Value.{Value, nil, more, given, as_group, group, expr_at}
use Rattle.es_lowering.specs.Expressions.{element_of, elements, behind_element}
use Rattle.es_lowering.specs.Lowering.{packed}
use Rattle.es_syntax.specs.Roles.{element_in, ts_type_in}
use Rattle.es_changed.specs.declared.entry.Change.TheVariants as change
use Rattle.es_changed.specs.declared.entry.Form.TheVariants as form
use Rattle.es_changed.specs.declared.entry.ChangedEntry.{ChangedEntry}
use Rattle.es_changed.specs.Formed.{formed}
use Rattle.es_changed.specs.Shape.{closed, opened, Writes}
use Rattle.es_changed.proofs.Written.{nothing_written, form_written, taken_open}
use Rattle.es_view_expressions.specs.expr.Primary as primary
use Rattle.dts_rules.specs.Made.{nowhere, frozen, frozen_by, readonly_type, if_readonly}
use Rattle.dts_rules.specs.Rules as rules
use Rattle.dts_rules.specs.Rules.{Shown, State, after, if_frozen, element_step, array_type}
use Rattle.dts_rules.specs.Programs.{shown_expr}
use Rattle.dts_rules.proofs.Shown.{with_expr}
use Rattle.dts_draft.specs.declared.draft.Draft.{Draft}
use Rattle.dts_draft.specs.Drafts.{state_of}
use Rattle.dts_draft.specs.Written.{IfThere, Puts}
use Rattle.dts_draft.proofs.Lists.{puts_none, read_each}
use Rattle.dts_draft.proofs.There.{mapped}
use Rattle.dts_leaves.proofs.Shown.{shown_by}
use Rattle.dts_types.specs.declared.ask.Ask.{Ask}
use Rattle.dts_types.specs.Types.{by_frozen, tuple_of, Answers, Infers, Rests, Has, Steps, AllStep, Something}

module _ (env : rules.Env) (x : List ℕ) (ts : List Token) where
  -- ---- all elements, one after the other
  step_more : (ask : Ask) (old mid new : Draft) (going : Bool) (o : Option Expr) (os : Option (List Expr))
      → IfThere (Steps x ts env ask old mid true) o → IfThere (AllStep x ts env ask mid new going) os
      → IfThere (AllStep x ts env ask old new going) (given o (λ a. given os (λ rest. Some (a ∷ rest))))
  step_more ask old mid new going None os p q = record { is = tt }
  step_more ask old mid new going (Some e) None p q = record { is = tt }
  step_more ask old mid new going (Some e) (Some es) p q =
      record {
        is = λ row before h. q.is row (element_step ask.literal ask.readonly before (with_expr env e))
            (p.is row before h);
      }

  -- what stopped stays stopped
  stopped : (ask : Ask) (s : State) (es : List Expr)
      → fold (element_step ask.literal ask.readonly) (None, s) (map (with_expr env) es) ≡ (None, s)
  stopped ask s [] = refl
  stopped ask s (e ∷ es) = stopped ask s es

  step_ends : (ask : Ask) (old new : Draft) (o : Option Expr) (os : Option (List Expr))
      → IfThere (Steps x ts env ask old new false) o
      → IfThere (AllStep x ts env ask old new false) (given o (λ a. given os (λ rest. Some (a ∷ rest))))
  step_ends ask old new None os p = record { is = tt }
  step_ends ask old new (Some e) None p = record { is = tt }
  step_ends ask old new (Some e) (Some es) p = record {
    is = λ row before h. go row (element_step ask.literal ask.readonly before (with_expr env e)) (p.is row before h);
  }
    where
      go : (row : List ChangedEntry) (now : Option (List TsTupleElement) × State) → Has x ts row new false now
          → Has x ts row new false (fold (element_step ask.literal ask.readonly) now (map (with_expr env) es))
      go row (Some els, s) h = absurd (true≢false (sym h.0))
      go row (None, s) h = subst (Has x ts row new false) (sym (stopped ask s es)) h

  -- what is left leads to all, wherever it stands
  pub record ElementsLeft (ask : Ask) (start now : Draft) (all left : Value) : Type 0 where
    pub leads : (new : Draft) (going : Bool)
        → ((later : ℕ) → IfThere (AllStep x ts env ask now new going) (elements vExpr.Hole expr_at ts later left))
        → (at : ℕ) → IfThere (AllStep x ts env ask start new going) (elements vExpr.Hole expr_at ts at all)

  pub elements_all : (ask : Ask) (start : Draft) (all : Value) → ElementsLeft ask start start all all
  elements_all ask start all = record { leads = λ new going h at. h at }

  pub elements_next : {ask : Ask} {start now next : Draft} {all left v rest : Value} → left ≡ more v rest
      → ElementsLeft ask start now all left
      → ((at : ℕ) → IfThere (Steps x ts env ask now next true)
      (element_of vExpr.Hole expr_at ts at (group (as_group v) 0)))
      → ElementsLeft ask start next all rest
  elements_next {ask = ask} {start = start} {now = now} {next = next} {all = all} {left = left} {v = v} {rest = rest} e
      before p = record {
        leads = λ new going h.
            before.leads new going (λ later.
            subst (λ (w : Value). IfThere (AllStep x ts env ask now new going) (elements vExpr.Hole expr_at ts later w))
            (sym e)
            (step_more ask now next new going (element_of vExpr.Hole expr_at ts later (group (as_group v) 0))
            (elements vExpr.Hole expr_at ts (behind_element later (group (as_group v) 0)) rest) (p later)
            (h (behind_element later (group (as_group v) 0)))));
      }

  pub elements_done : {ask : Ask} {start now : Draft} {all left : Value} → left ≡ nil
      → ElementsLeft ask start now all left
      → (at : ℕ) → IfThere (AllStep x ts env ask start now true) (elements vExpr.Hole expr_at ts at all)
  elements_done {ask = ask} {start = start} {now = now} {all = all} {left = left} e before =
      before.leads now true (λ later.
      subst (λ (w : Value). IfThere (AllStep x ts env ask now now true) (elements vExpr.Hole expr_at ts later w))
      (sym e)
      (record { is = λ row before h. h }))

  pub elements_end : (ask : Ask) (start now next : Draft) (all left v rest : Value) → left ≡ more v rest
      → ElementsLeft ask start now all left
      → ((at : ℕ) → IfThere (Steps x ts env ask now next false)
      (element_of vExpr.Hole expr_at ts at (group (as_group v) 0)))
      → (at : ℕ) → IfThere (AllStep x ts env ask start next false) (elements vExpr.Hole expr_at ts at all)
  elements_end ask start now next all left v rest e before p =
      before.leads next false (λ later.
      subst (λ (w : Value). IfThere (AllStep x ts env ask now next false) (elements vExpr.Hole expr_at ts later w))
      (sym e)
      (step_ends ask now next (element_of vExpr.Hole expr_at ts later (group (as_group v) 0))
      (elements vExpr.Hole expr_at ts (behind_element later (group (as_group v) 0)) rest) (p later)))

  -- ---- a tuple of them
  pub tuple_made : (ask : Ask) (old begun mid new : Draft) (place : ℕ) (o : Option (List Expr))
      → begun.row ≡ old.row ++ opened → place ≡ length old.row → state_of begun ≡ state_of old
      → IfThere (AllStep x ts env ask begun mid true) o → new.row ≡ closed (change.Form form.Tuple) 0 0 place mid.row
      → state_of new ≡ state_of mid → IfThere (λ es. Answers x ts old new true (tuple_of env ask es (state_of old))) o
  tuple_made ask old begun mid new place None eo ep sb a w sn = record { is = tt }
  tuple_made ask old begun mid new place (Some es) eo ep sb a w sn = record {
    is = go (fold (element_step ask.literal ask.readonly) (Some [], state_of old) (map (with_expr env) es))
        (a.is begun.row (Some [], state_of old) (refl, sb, puts_none x ts element_in begun.row));
  }
    where
      go : (t : Option (List TsTupleElement) × State) → Has x ts begun.row mid true t
          → Answers x ts old new true (after (option_map (λ els. vType.Tuple els nowhere)) t)
      go (Some els, s) h = (
        refl,
        sn ∙ h.1,
        record {
          value = formed x ts form.Tuple 0 0 (packed h.2.values);
          writes = form_written x ts form.Tuple 0 0 place old.row begun.row mid.row new.row h.2.values eo ep h.2.writes
              w;
          is = ap (option_map (λ elems. vType.Tuple elems nowhere)) (read_each element_in h.2.values els h.2.are);
        },
      )
      go (None, s) h = absurd (true≢false h.0)

  pub no_tuple : (ask : Ask) (old begun mid new : Draft) (place : ℕ) (o : Option (List Expr))
      → begun.row ≡ old.row ++ opened → place ≡ length old.row → state_of begun ≡ state_of old
      → IfThere (AllStep x ts env ask begun mid false) o → new.row ≡ take place mid.row
      → state_of new ≡ state_of mid → IfThere (λ es. Answers x ts old new false (tuple_of env ask es (state_of old))) o
  no_tuple ask old begun mid new place None eo ep sb a w sn = record { is = tt }
  no_tuple ask old begun mid new place (Some es) eo ep sb a w sn = record {
    is = go (fold (element_step ask.literal ask.readonly) (Some [], state_of old) (map (with_expr env) es))
        (a.is begun.row (Some [], state_of old) (refl, sb, puts_none x ts element_in begun.row));
  }
    where
      go : (t : Option (List TsTupleElement) × State) → Has x ts begun.row mid false t
          → Answers x ts old new false (after (option_map (λ els. vType.Tuple els nowhere)) t)
      go (Some els, s) h = absurd (true≢false (sym h.0))
      go (None, s) h = (
        refl,
        sn ∙ h.1,
        subst (λ (es : List ChangedEntry). Writes x ts old.row es [])
            (sym (w ∙ taken_open x ts place old.row begun.row mid.row h.2.values eo ep h.2.writes))
            (nothing_written x ts old.row),
      )

  -- ---- `readonly` or not, and frozen
  -- whether it is, where an array is asked for
  abbrev pub fixed : Ask → Bool
  fixed ask = ask.readonly || ask.frozen

  tuple_frozen : (els : List TsTupleElement)
      → frozen (vType.Tuple els nowhere) ≡ Some (readonly_type (vType.Tuple els nowhere))
  unfolding frozen
  tuple_frozen els =
      ap (frozen_by (vType.Tuple els nowhere))
      (ap out-TsType (sym (vType.rolls-Tuple els nowhere)) ∙ out-roll-TsType (TsType-F.Tuple els nowhere))

  readonly_frozen : (ty : TsType) → frozen (readonly_type ty) ≡ Some (readonly_type ty)
  unfolding frozen
  readonly_frozen ty =
      ap (frozen_by (readonly_type ty)) (ap out-TsType (sym (vType.rolls-Operator operator.ReadOnly ty nowhere))
      ∙ out-roll-TsType (TsType-F.Operator operator.ReadOnly ty nowhere))

  -- an array is its tuple, behind `readonly` where that is asked for
  array_by : (readonly froze : Bool) (t : Option (List TsTupleElement) × State)
      → by_frozen froze (after (option_map (λ els. if_readonly readonly (vType.Tuple els nowhere))) t)
      ≡ after (option_map (λ els. if_readonly (readonly || froze) (vType.Tuple els nowhere))) t
  array_by true true (Some els, s) = ap (λ o. (o, s)) (readonly_frozen (vType.Tuple els nowhere))
  array_by true true (None, s) = refl
  array_by true false (Some els, s) = refl
  array_by true false (None, s) = refl
  array_by false true (Some els, s) = ap (λ o. (o, s)) (tuple_frozen els)
  array_by false true (None, s) = refl
  array_by false false (Some els, s) = refl
  array_by false false (None, s) = refl

  array_shown : (ask : Ask) (es : List Expr) (span : Range) (s : State)
      → by_frozen ask.frozen ((shown_expr env (vExpr.Array es span)).rule ask.literal ask.readonly s)
      ≡ after (option_map (λ els. if_readonly (fixed ask) (vType.Tuple els nowhere)))
      (fold (element_step ask.literal ask.readonly) (Some [], s) (map (with_expr env) es))
  array_shown ask es span s =
      ap (λ (k : Shown). by_frozen ask.frozen (k.rule ask.literal ask.readonly s))
      (shown_by env _ (Expr-F.Expr::Array es span) (vExpr.rolls-Array es span))
      ∙ array_by ask.readonly ask.frozen
      (fold (element_step ask.literal ask.readonly) (Some [], s) (map (with_expr env) es))

  pub plain_array : (ask : Ask) (old new : Draft) (wrote : Bool) (from : ℕ) (r : Range) (v : Value) → fixed ask ≡ false
      → ((at : ℕ) → IfThere (λ es. Answers x ts old new wrote (tuple_of env ask es (state_of old)))
      (elements vExpr.Hole expr_at ts at v))
      → IfThere (Infers x ts env ask old new wrote) (primary.array ts r from v)
  unfolding primary.array
  plain_array ask old new wrote from r v e h = go (elements vExpr.Hole expr_at ts (from + 1) v) (h (from + 1))
    where
      go : (o : Option (List Expr)) → IfThere (λ es. Answers x ts old new wrote (tuple_of env ask es (state_of old))) o
          → IfThere (Infers x ts env ask old new wrote) (option_map (λ elems. vExpr.Array elems r) o)
      go None h = record { is = tt }
      go (Some es) h = record {
        is = subst (Answers x ts old new wrote) (sym (array_shown ask es r (state_of old)
            ∙ ap (λ (b : Bool). after (option_map (λ els. if_readonly b (vType.Tuple els nowhere)))
            (fold (element_step ask.literal ask.readonly) (Some [], state_of old) (map (with_expr env) es))) e)) h.is;
      }

  as_readonly : (old begun mid new : Draft) (place : ℕ) (t : Option (List TsTupleElement) × State)
      → begun.row ≡ old.row ++ opened → place ≡ length old.row
      → Answers x ts begun mid true (after (option_map (λ els. vType.Tuple els nowhere)) t)
      → new.row ≡ closed (change.Form form.Readonly) 0 0 place mid.row → state_of new ≡ state_of mid
      → Answers x ts old new true (after (option_map (λ els. if_readonly true (vType.Tuple els nowhere))) t)
  as_readonly old begun mid new place (Some els, s) eo ep a w sn = (
    refl,
    sn ∙ a.1,
    record {
      value = formed x ts form.Readonly 0 0 (packed (a.2.value ∷ []));
      writes = form_written x ts form.Readonly 0 0 place old.row begun.row mid.row new.row (a.2.value ∷ []) eo ep
          a.2.writes w;
      is = ap (option_map (λ ty. vType.Operator operator.ReadOnly ty nowhere)) a.2.is;
    },
  )
  as_readonly old begun mid new place (None, s) eo ep a w sn = absurd (true≢false a.0)

  not_readonly : (old begun mid new : Draft) (place : ℕ) (t : Option (List TsTupleElement) × State)
      → begun.row ≡ old.row ++ opened → place ≡ length old.row
      → Answers x ts begun mid false (after (option_map (λ els. vType.Tuple els nowhere)) t)
      → new.row ≡ take place mid.row → state_of new ≡ state_of mid
      → Answers x ts old new false (after (option_map (λ els. if_readonly true (vType.Tuple els nowhere))) t)
  not_readonly old begun mid new place (Some els, s) eo ep a w sn = absurd (true≢false (sym a.0))
  not_readonly old begun mid new place (None, s) eo ep a w sn = (
    refl,
    sn ∙ a.1,
    subst (λ (es : List ChangedEntry). Writes x ts old.row es [])
        (sym (w ∙ taken_open x ts place old.row begun.row mid.row [] eo ep a.2)) (nothing_written x ts old.row),
  )

  pub readonly_array : (ask : Ask) (old begun mid new : Draft) (place from : ℕ) (r : Range) (v : Value)
      → fixed ask ≡ true
      → begun.row ≡ old.row ++ opened → place ≡ length old.row → state_of begun ≡ state_of old
      → ((at : ℕ) → IfThere (λ es. Answers x ts begun mid true (tuple_of env ask es (state_of begun)))
      (elements vExpr.Hole expr_at ts at v))
      → new.row ≡ closed (change.Form form.Readonly) 0 0 place mid.row → state_of new ≡ state_of mid
      → IfThere (Infers x ts env ask old new true) (primary.array ts r from v)
  unfolding primary.array
  readonly_array ask old begun mid new place from r v e eo ep sb h w sn =
      go (elements vExpr.Hole expr_at ts (from + 1) v) (h (from + 1))
    where
      go : (o : Option (List Expr))
          → IfThere (λ es. Answers x ts begun mid true (tuple_of env ask es (state_of begun))) o
          → IfThere (Infers x ts env ask old new true) (option_map (λ elems. vExpr.Array elems r) o)
      go None h = record { is = tt }
      go (Some es) h = record {
        is = subst (Answers x ts old new true) (sym (array_shown ask es r (state_of old)
            ∙ ap (λ (b : Bool). after (option_map (λ els. if_readonly b (vType.Tuple els nowhere)))
            (fold (element_step ask.literal ask.readonly) (Some [], state_of old) (map (with_expr env) es))) e))
            (as_readonly old begun mid new place
            (fold (element_step ask.literal ask.readonly) (Some [], state_of old) (map (with_expr env) es)) eo ep
            (subst (λ (s : State). Answers x ts begun mid true (tuple_of env ask es s)) sb h.is) w sn);
      }

  pub no_readonly : (ask : Ask) (old begun mid new : Draft) (place from : ℕ) (r : Range) (v : Value) → fixed ask ≡ true
      → begun.row ≡ old.row ++ opened → place ≡ length old.row → state_of begun ≡ state_of old
      → ((at : ℕ) → IfThere (λ es. Answers x ts begun mid false (tuple_of env ask es (state_of begun)))
      (elements vExpr.Hole expr_at ts at v))
      → new.row ≡ take place mid.row → state_of new ≡ state_of mid
      → IfThere (Infers x ts env ask old new false) (primary.array ts r from v)
  unfolding primary.array
  no_readonly ask old begun mid new place from r v e eo ep sb h w sn =
      go (elements vExpr.Hole expr_at ts (from + 1) v) (h (from + 1))
    where
      go : (o : Option (List Expr))
          → IfThere (λ es. Answers x ts begun mid false (tuple_of env ask es (state_of begun))) o
          → IfThere (Infers x ts env ask old new false) (option_map (λ elems. vExpr.Array elems r) o)
      go None h = record { is = tt }
      go (Some es) h = record {
        is = subst (Answers x ts old new false) (sym (array_shown ask es r (state_of old)
            ∙ ap (λ (b : Bool). after (option_map (λ els. if_readonly b (vType.Tuple els nowhere)))
            (fold (element_step ask.literal ask.readonly) (Some [], state_of old) (map (with_expr env) es))) e))
            (not_readonly old begun mid new place
            (fold (element_step ask.literal ask.readonly) (Some [], state_of old) (map (with_expr env) es)) eo ep
            (subst (λ (s : State). Answers x ts begun mid false (tuple_of env ask es s)) sb h.is) w sn);
      }

  -- ---- by what the calls answered
  pub element_goes : (ask : Ask) (start now next : Draft) (b : Bool) (all left v rest : Value) → b ≡ true
      → left ≡ more v rest → ElementsLeft ask start now all left
      → ((at : ℕ) → IfThere (Steps x ts env ask now next b)
      (element_of vExpr.Hole expr_at ts at (group (as_group v) 0)))
      → ElementsLeft ask start next all rest
  element_goes ask start now next b all left v rest e is before p =
      elements_next {ask = ask} {start = start} {now = now} {next = next} {all = all} {left = left} {v = v}
      {rest = rest}
      is before (subst (λ (b : Bool). (at : ℕ) → IfThere (Steps x ts env ask now next b)
      (element_of vExpr.Hole expr_at ts at (group (as_group v) 0))) e p)

  pub element_stops : (ask : Ask) (start now next : Draft) (b : Bool) (all left v rest : Value) → b ≡ false
      → left ≡ more v rest → ElementsLeft ask start now all left
      → ((at : ℕ) → IfThere (Steps x ts env ask now next b)
      (element_of vExpr.Hole expr_at ts at (group (as_group v) 0)))
      → (at : ℕ) → IfThere (AllStep x ts env ask start next false) (elements vExpr.Hole expr_at ts at all)
  element_stops ask start now next b all left v rest e is before p =
      elements_end ask start now next all left v rest is before
      (subst (λ (b : Bool). (at : ℕ) → IfThere (Steps x ts env ask now next b)
      (element_of vExpr.Hole expr_at ts at (group (as_group v) 0))) e p)

  pub elements_over : (ask : Ask) (start now : Draft) (all left : Value) → left ≡ nil
      → ElementsLeft ask start now all left
      → (at : ℕ) → IfThere (AllStep x ts env ask start now true) (elements vExpr.Hole expr_at ts at all)
  elements_over ask start now all left e before =
      elements_done {ask = ask} {start = start} {now = now} {all = all} {left = left} e before

  pub tuple_all : (ask : Ask) (old begun mid new : Draft) (place : ℕ) (b : Bool) (o : Option (List Expr))
      → begun.row ≡ old.row ++ opened → place ≡ length old.row → state_of begun ≡ state_of old → b ≡ true
      → IfThere (AllStep x ts env ask begun mid b) o → new.row ≡ closed (change.Form form.Tuple) 0 0 place mid.row
      → state_of new ≡ state_of mid → IfThere (λ es. Answers x ts old new true (tuple_of env ask es (state_of old))) o
  tuple_all ask old begun mid new place b o eo ep sb e a w sn =
      tuple_made ask old begun mid new place o eo ep sb
      (subst (λ (b : Bool). IfThere (AllStep x ts env ask begun mid b) o) e a) w sn

  pub tuple_none : (ask : Ask) (old begun mid new : Draft) (place : ℕ) (b : Bool) (o : Option (List Expr))
      → begun.row ≡ old.row ++ opened → place ≡ length old.row → state_of begun ≡ state_of old → b ≡ false
      → IfThere (AllStep x ts env ask begun mid b) o → new.row ≡ take place mid.row
      → state_of new ≡ state_of mid → IfThere (λ es. Answers x ts old new false (tuple_of env ask es (state_of old))) o
  tuple_none ask old begun mid new place b o eo ep sb e a w sn =
      no_tuple ask old begun mid new place o eo ep sb
      (subst (λ (b : Bool). IfThere (AllStep x ts env ask begun mid b) o) e a) w sn

  abbrev Tuples : Ask → Draft → Draft → Value → Bool → Type 0
  Tuples ask old new v b =
      (at : ℕ) → IfThere (λ es. Answers x ts old new b (tuple_of env ask es (state_of old)))
      (elements vExpr.Hole expr_at ts at v)

  pub readonly_all : (ask : Ask) (old begun mid new : Draft) (place from : ℕ) (r : Range) (v : Value) (b : Bool)
      → fixed ask ≡ true → begun.row ≡ old.row ++ opened → place ≡ length old.row → state_of begun ≡ state_of old
      → b ≡ true
      → Tuples ask begun mid v b → new.row ≡ closed (change.Form form.Readonly) 0 0 place mid.row
      → state_of new ≡ state_of mid → IfThere (Infers x ts env ask old new true) (primary.array ts r from v)
  readonly_all ask old begun mid new place from r v b e eo ep sb is h w sn =
      readonly_array ask old begun mid new place from r v e eo ep sb (subst (Tuples ask begun mid v) is h) w sn

  pub readonly_none : (ask : Ask) (old begun mid new : Draft) (place from : ℕ) (r : Range) (v : Value) (b : Bool)
      → fixed ask ≡ true → begun.row ≡ old.row ++ opened → place ≡ length old.row → state_of begun ≡ state_of old
      → b ≡ false
      → Tuples ask begun mid v b → new.row ≡ take place mid.row → state_of new ≡ state_of mid
      → IfThere (Infers x ts env ask old new false) (primary.array ts r from v)
  readonly_none ask old begun mid new place from r v b e eo ep sb is h w sn =
      no_readonly ask old begun mid new place from r v e eo ep sb (subst (Tuples ask begun mid v) is h) w sn

  -- behind `...`
  rest_shown : (literal : Bool) (es : List Expr) (span : Range) (s : State)
      → (shown_expr env (vExpr.Array es span)).rest literal s
      ≡ tuple_of env (record { literal = literal; readonly = false; frozen = false }) es s
  rest_shown literal es span s =
      ap (λ (k : Shown). k.rest literal s) (shown_by env _ (Expr-F.Expr::Array es span) (vExpr.rolls-Array es span))

  pub rest_tuple : (literal : Bool) (old new : Draft) (wrote : Bool) (from : ℕ) (r : Range) (v : Value)
      → Tuples (record { literal = literal; readonly = false; frozen = false }) old new v wrote
      → IfThere (Rests x ts env literal old new wrote) (primary.array ts r from v)
  unfolding primary.array
  rest_tuple literal old new wrote from r v h =
      mapped (λ es. Answers x ts old new wrote
      (tuple_of env (record { literal = literal; readonly = false; frozen = false }) es (state_of old)))
      (Rests x ts env literal old new wrote) (λ elems. vExpr.Array elems r)
      (elements vExpr.Hole expr_at ts (from + 1) v)
      (λ es a. subst (Answers x ts old new wrote) (sym (rest_shown literal es r (state_of old))) a) (h (from + 1))
