-- Properties of objects, one by one.
use Rattle.std.specs.Prelude.{ℕ, ◌+◌, Bool, true, false, List, [], ◌∷◌, ◌++◌, Option, Some, None, option_map, length, map, slice_get, take}
use Rattle.std.proofs.Common.{◌≡◌, refl, sym, ap, subst, ◌∙◌}
use Rattle.std.proofs.lemmas.Bool.{true≢false}
use Rattle.base.specs.declared.range.Range.{Range}
use Rattle.es_token.specs.declared.token.Token.{Token}
use Rattle.es_grammar.specs.declared.rows.NodeKind.TheVariants as l
use Rattle.es_ast.specs.declared.ts.leaf.TsKey.{TsKey}
use Rattle.es_ast.specs.declared.ts.ts.TsPatProp.{TsPatProp}
use Rattle.es_ast.specs.declared.ts.ts.TsPatProp.TheVariants as vTsProp
use Rattle.es_ast.specs.declared.ast.Expr.{Expr, out-Expr}
use Rattle.es_ast.specs.declared.ast.ObjectPatProp.{ObjectPatProp}
use Rattle.es_ast.specs.declared.ast.ObjectPatProp.TheVariants as vProp
use Rattle.es_ast.specs.declared.ast.Pat.{Pat}
use Rattle.es_lowering.specs.Value.{Value, nil, token, given, optional, as_group, turns, option_list, expr_at, pat_prop_at, type_prop_at}
use Rattle.es_lowering.specs.Texts.{span_of, ident_of}
use Rattle.es_lowering.specs.Functions.{Key}
use Rattle.es_lowering.specs.Patterns.{with_default}
use Rattle.es_lowering.specs.Lowering.{packed}
use Rattle.es_syntax.specs.declared.entry.What.TheVariants as what
use Rattle.es_syntax.specs.Held.{node_of}
use Rattle.es_syntax.specs.Roles.{type_key_in, type_pat_in, type_prop_in}
use Rattle.es_changed.specs.declared.entry.Change.TheVariants as change
use Rattle.es_changed.specs.declared.entry.ChangedEntry.{ChangedEntry}
use Rattle.es_changed.specs.Shape.{closed, opened, Writes}
use Rattle.es_changed.proofs.Written.{nothing_written, both_written, group_written, node_written, taken_open}
use Rattle.es_view_expressions.specs.pattern.PatProp as prop
use Rattle.dts_rules.specs.Rules.{Env, some, pattern_key}
use Rattle.dts_rules.specs.Programs.{shown_pat_prop}
use Rattle.dts_draft.specs.Written.{IfThere, Puts, PutsAll, Gives}
use Rattle.dts_draft.proofs.There.{lifted}
use Rattle.dts_draft.proofs.Lists.{TurnsLeft, as_packed, given_listed, read_turns, turns_done}
use Rattle.dts_patterns.specs.Patterns.{pattern, IsKey, IsPattern, IsProp, IsPropTurn, AreProps, IsPropGroup}
use Rattle.dts_patterns.proofs.Equations.{pattern_Assign, prop_KeyValue, prop_Assign, prop_Rest}
use Rattle.dts_patterns.proofs.Nodes.{rest_prop_is, key_prop_is, name_prop_is}

-- what stands in a turn, as a property
abbrev pub in_turn : Value → Option TsPatProp
in_turn v = type_prop_at (as_group v) 0

module _ (x : List ℕ) (ts : List Token) where
  -- ---- a turn
  turned : (old begun mid new : List ChangedEntry) (place : ℕ) (wrote : Bool) (o : Option TsPatProp)
      → begun ≡ old ++ opened → place ≡ length old → wrote ≡ true → Gives x ts type_prop_in begun mid wrote o
      → new ≡ closed (change.Old what.Parts) 0 0 place mid → Gives x ts in_turn old new true o
  turned old begun mid new place wrote (Some a) eo ep e g w = (
    refl,
    record {
      value = packed (g.1.value ∷ []);
      writes = group_written x ts 0 0 place old begun mid new (g.1.value ∷ []) eo ep g.1.writes w;
      is = g.1.is;
    },
  )
  turned old begun mid new place wrote None eo ep e g w = absurd (true≢false (sym e ∙ g.0))

  taken : (old begun mid new : List ChangedEntry) (place : ℕ) (wrote : Bool) (o : Option TsPatProp)
      → begun ≡ old ++ opened → place ≡ length old → wrote ≡ false → Gives x ts type_prop_in begun mid wrote o
      → new ≡ take place mid → Gives x ts in_turn old new false o
  taken old begun mid new place wrote (Some a) eo ep e g w = absurd (true≢false (sym g.0 ∙ e))
  taken old begun mid new place wrote None eo ep e g w = (
    refl,
    subst (λ (es : List ChangedEntry). Writes x ts old es [])
        (sym (w ∙ taken_open x ts place old begun mid [] eo ep g.1))
        (nothing_written x ts old),
  )

  -- what is dropped behind it changes nothing
  pub given_dropped : {old mid new : List ChangedEntry} (wrote : Bool) (o : Option TsPatProp)
      → Gives x ts in_turn old mid wrote o → Writes x ts mid new [] → PutsAll x ts in_turn old new (option_list o)
  given_dropped {old = old} {mid = mid} {new = new} wrote (Some a) g gone = record {
    values = g.1.value ∷ [];
    writes = both_written x ts old mid new (g.1.value ∷ []) [] g.1.writes gone;
    are = ap (λ o. o ∷ []) g.1.is;
  }
  given_dropped {old = old} {mid = mid} {new = new} wrote None g gone = record {
    values = [];
    writes = both_written x ts old mid new [] [] g.1 gone;
    are = refl;
  }

  -- ---- `a: b`
  with_key : (old begun keyed mid past new : List ChangedEntry) (place from to end : ℕ) (p : Pat) (wrote : Bool)
      (env : Env) (o : Option TsKey) → begun ≡ old ++ opened → place ≡ length old → wrote ≡ true
      → Gives x ts type_key_in begun keyed wrote o → IsPattern env x ts keyed mid end p → Writes x ts mid past []
      → new ≡ closed (change.Old (what.Node l.KeyProperty)) from to place past
      → Gives x ts type_prop_in old new true
      (option_map (λ key. vTsProp.KeyValue key (pattern env p) (span_of ts from to)) o)
  with_key old begun keyed mid past new place from to end p wrote env (Some a) eo ep e g h gone w = (
    refl,
    record {
      value = node_of x ts l.KeyProperty from to (packed (g.1.value ∷ h.value ∷ []));
      writes = node_written x ts l.KeyProperty from to place old begun past new (g.1.value ∷ h.value ∷ []) eo ep
          (both_written x ts begun mid past (g.1.value ∷ h.value ∷ []) []
          (both_written x ts begun keyed mid (g.1.value ∷ []) (h.value ∷ []) g.1.writes h.writes) gone) w;
      is = key_prop_is x ts from to g.1.value h.value
          ∙ (ap (λ k. given k (λ key. given (type_pat_in h.value)
          (λ value. Some (vTsProp.KeyValue key value (span_of ts from to))))) g.1.is
          ∙ ap (λ v. given v (λ value. Some (vTsProp.KeyValue a value (span_of ts from to)))) h.is);
    },
  )
  with_key old begun keyed mid past new place from to end p wrote env None eo ep e g h gone w =
      absurd (true≢false (sym e ∙ g.0))

  without_key : (old begun keyed new : List ChangedEntry) (place : ℕ) (wrote : Bool) (f : TsKey → TsPatProp)
      (o : Option TsKey) → begun ≡ old ++ opened → place ≡ length old → wrote ≡ false
      → Gives x ts type_key_in begun keyed wrote o → new ≡ take place keyed
      → Gives x ts type_prop_in old new false (option_map f o)
  without_key old begun keyed new place wrote f (Some a) eo ep e g w = absurd (true≢false (sym g.0 ∙ e))
  without_key old begun keyed new place wrote f None eo ep e g w = (
    refl,
    subst (λ (es : List ChangedEntry). Writes x ts old es [])
        (sym (w ∙ taken_open x ts place old begun keyed [] eo ep g.1)) (nothing_written x ts old),
  )

module _ (env : Env) (x : List ℕ) (ts : List Token) where
  pub prop_turned : {begun new : List ChangedEntry} {place : ℕ} {wrote : Bool} {o : Option ObjectPatProp}
      (old mid : List ChangedEntry) → begun ≡ old ++ opened → place ≡ length old → wrote ≡ true
      → IfThere (IsProp env x ts begun mid wrote) o
      → new ≡ closed (change.Old what.Parts) 0 0 place mid → IfThere (IsPropTurn env x ts old new true) o
  prop_turned {begun = begun} {new = new} {place = place} {wrote = wrote} {o = o} old mid eo ep e h w =
      lifted (λ it g. turned x ts old begun mid new place wrote (shown_pat_prop env it) eo ep e g w) h

  pub prop_taken : {begun new : List ChangedEntry} {place : ℕ} {wrote : Bool} {o : Option ObjectPatProp}
      (old mid : List ChangedEntry) → begun ≡ old ++ opened → place ≡ length old → wrote ≡ false
      → IfThere (IsProp env x ts begun mid wrote) o
      → new ≡ take place mid → IfThere (IsPropTurn env x ts old new false) o
  prop_taken {begun = begun} {new = new} {place = place} {wrote = wrote} {o = o} old mid eo ep e h w =
      lifted (λ it g. taken x ts old begun mid new place wrote (shown_pat_prop env it) eo ep e g w) h

  -- a turn, as what it puts there
  pub turn_stays : {old new : List ChangedEntry} {o : Option ObjectPatProp} (wrote : Bool)
      → IfThere (IsPropTurn env x ts old new wrote) o
      → IfThere (λ it. PutsAll x ts in_turn old new (option_list (shown_pat_prop env it))) o
  turn_stays {old = old} {new = new} {o = o} wrote h =
      lifted (λ it g. given_listed x ts in_turn old new wrote (shown_pat_prop env it) g) h

  pub turn_goes : {old mid new : List ChangedEntry} {o : Option ObjectPatProp} (wrote : Bool)
      → IfThere (IsPropTurn env x ts old mid wrote) o → Writes x ts mid new []
      → IfThere (λ it. PutsAll x ts in_turn old new (option_list (shown_pat_prop env it))) o
  turn_goes {old = old} {mid = mid} {new = new} {o = o} wrote h gone =
      lifted (λ it g. given_dropped x ts wrote (shown_pat_prop env it) g gone) h

  -- all turns are behind
  pub props_done : {start now : List ChangedEntry} {all left : Value} → left ≡ nil
      → TurnsLeft x ts in_turn (shown_pat_prop env) (λ turn. pat_prop_at turn 0) start now all left
      → IfThere (AreProps env x ts start now) (turns (λ turn. pat_prop_at turn 0) all)
  props_done {start = start} {now = now} {all = all} {left = left} e before =
      turns_done x ts in_turn (shown_pat_prop env) (λ turn. pat_prop_at turn 0) start now all left e before

  pub group_of_props : {old begun mid new : List ChangedEntry} {place : ℕ} {os : Option (List ObjectPatProp)}
      → begun ≡ old ++ opened → place ≡ length old → IfThere (AreProps env x ts begun mid) os
      → new ≡ closed (change.Old what.Parts) 0 0 place mid → IfThere (IsPropGroup env x ts old new) os
  group_of_props {old = old} {begun = begun} {mid = mid} {new = new} {place = place} {os = os} eo ep h w =
      lifted (λ them r. record {
        value = packed r.values;
        writes = group_written x ts 0 0 place old begun mid new r.values eo ep r.writes w;
        are = ap (turns (λ turn. type_prop_at turn 0)) (as_packed r.values)
            ∙ read_turns (λ turn. type_prop_at turn 0) r.values (some (map (shown_pat_prop env) them)) r.are;
      }) h

  -- ---- each form
  shows : (old new : List ChangedEntry) (wrote : Bool) (it : ObjectPatProp) (o : Option TsPatProp)
      → shown_pat_prop env it ≡ o → Gives x ts type_prop_in old new wrote o → IsProp env x ts old new wrote it
  shows old new wrote it o e g = subst (Gives x ts type_prop_in old new wrote) (sym e) g

  pub rest_written : {begun mid new : List ChangedEntry} {place end : ℕ} {o : Option Pat} (old : List ChangedEntry)
      (from to : ℕ) → begun ≡ old ++ opened → place ≡ length old → IfThere (IsPattern env x ts begun mid end) o
      → new ≡ closed (change.Old (what.Node l.RestPropertyOfType)) from to place mid
      → IfThere (IsProp env x ts old new true) (prop.rest (span_of ts from to) o)
  unfolding prop.rest
  rest_written {begun = begun} {mid = mid} {new = new} {place = place} {end = end} {o = None} old from to eo ep h w =
      record { is = tt }
  rest_written {begun = begun} {mid = mid} {new = new} {place = place} {end = end} {o = Some arg} old from to eo ep h
      w =
      let g : IsPattern env x ts begun mid end arg = h.is in
      record {
        is = shows old new true _ _ (prop_Rest env arg (span_of ts from to)) (
          refl,
          record {
            value = node_of x ts l.RestPropertyOfType from to (packed (g.value ∷ []));
            writes = node_written x ts l.RestPropertyOfType from to place old begun mid new (g.value ∷ []) eo ep
                g.writes w;
            is = rest_prop_is x ts from to g.value
                ∙ ap (option_map (λ arg. vTsProp.Rest arg (span_of ts from to))) g.is;
          },
        );
      }

  pub name_written : {old mid new : List ChangedEntry} (at : ℕ) (r : Range) (value : Value)
      → Writes x ts old mid (node_of x ts l.NamePropertyOfType at (at + 1) (packed (token at ∷ [])) ∷ [])
      → Writes x ts mid new [] → IfThere (IsProp env x ts old new true) (prop.shorthand x r (slice_get ts at) value)
  unfolding prop.shorthand
  name_written {old = old} {mid = mid} {new = new} at r value w gone =
      go (slice_get ts at) refl (optional expr_at value)
    where
      go : (o : Option Token) → slice_get ts at ≡ o → (v : Option (Option Expr))
          → IfThere (IsProp env x ts old new true)
          (given (option_map (ident_of x) o) (λ key. given v (λ value. Some (vProp.Assign key value r))))
      go None e v = record { is = tt }
      go (Some t) e None = record { is = tt }
      go (Some t) e (Some v) = record {
        is = shows old new true _ _ (prop_Assign env (ident_of x t) v r) (
          refl,
          record {
            value = node_of x ts l.NamePropertyOfType at (at + 1) (packed (token at ∷ []));
            writes = both_written x ts old mid new _ [] w gone;
            is = name_prop_is x ts at (at + 1) at
                ∙ ap (λ o. option_map vTsProp.Shorthand (option_map (ident_of x) o)) e;
          },
        );
      }

  -- the default of a pattern goes
  defaulted : (span : Range) (p : Pat) (v : Option Expr) → pattern env (with_default span p v) ≡ pattern env p
  defaulted span p (Some e) = pattern_Assign env p e span
  defaulted span p None = refl

  shows_key : (k : Key) (p : Pat) (span r : Range) (v : Option Expr)
      → shown_pat_prop env (vProp.KeyValue k.0 k.1 (with_default span p v) r)
      ≡ option_map (λ key. vTsProp.KeyValue key (pattern env p) r) (pattern_key env k.0 (out-Expr k.1))
  shows_key k p span r v =
      prop_KeyValue env k.0 k.1 (with_default span p v) r
      ∙ ap (λ q. option_map (λ key. vTsProp.KeyValue key q r) (pattern_key env k.0 (out-Expr k.1))) (defaulted span p v)

  pub key_written : {begun keyed mid past new : List ChangedEntry} {place end : ℕ} {wrote : Bool} {p : Option Pat}
      (old : List ChangedEntry) (from to : ℕ) (key : Option Key) (span : Range) (value : Value) → begun ≡ old ++ opened
      → place ≡ length old
      → wrote ≡ true → IsKey env x ts begun keyed wrote key → IfThere (IsPattern env x ts keyed mid end) p
      → Writes x ts mid past [] → new ≡ closed (change.Old (what.Node l.KeyProperty)) from to place past
      → IfThere (IsProp env x ts old new true) (prop.key_value span (span_of ts from to) key p value)
  unfolding prop.key_value
  key_written {begun = begun} {keyed = keyed} {mid = mid} {past = past} {new = new} {place = place} {end = end}
      {wrote = wrote} {p = p} old from to None span value eo ep e g
      h gone w =
      record { is = tt }
  key_written {begun = begun} {keyed = keyed} {mid = mid} {past = past} {new = new} {place = place} {end = end}
      {wrote = wrote} {p = None} old from to (Some k) span value eo ep
      e g h gone w =
      record { is = tt }
  key_written {begun = begun} {keyed = keyed} {mid = mid} {past = past} {new = new} {place = place} {end = end}
      {wrote = wrote} {p = Some p} old from to (Some k) span value eo
      ep e g h gone w =
      go (optional expr_at value)
    where
      go : (v : Option (Option Expr)) → IfThere (IsProp env x ts old new true)
          (given v (λ value. Some (vProp.KeyValue k.0 k.1 (with_default span p value) (span_of ts from to))))
      go None = record { is = tt }
      go (Some v) = record {
        is = shows old new true _ _ (shows_key k p span (span_of ts from to) v)
            (with_key x ts old begun keyed mid past new place from to end p wrote env
            (pattern_key env k.0 (out-Expr k.1)) eo ep e
            g.is h.is gone w);
      }

  pub key_none : {begun new : List ChangedEntry} {place : ℕ} {wrote : Bool} (old keyed : List ChangedEntry)
      (key : Option Key) (r : Range) (p : Option Pat) (span : Range) (value : Value) → begun ≡ old ++ opened
      → place ≡ length old
      → wrote ≡ false → IsKey env x ts begun keyed wrote key → new ≡ take place keyed
      → IfThere (IsProp env x ts old new false) (prop.key_value span r key p value)
  unfolding prop.key_value
  key_none {begun = begun} {new = new} {place = place} {wrote = wrote} old keyed None r p span value eo ep e g w =
      record { is = tt }
  key_none {begun = begun} {new = new} {place = place} {wrote = wrote} old keyed (Some k) r None span value eo ep e g
      w = record { is = tt }
  key_none {begun = begun} {new = new} {place = place} {wrote = wrote} old keyed (Some k) r (Some p) span value eo ep e
      g w =
      go (optional expr_at value)
    where
      go : (v : Option (Option Expr)) → IfThere (IsProp env x ts old new false)
          (given v (λ value. Some (vProp.KeyValue k.0 k.1 (with_default span p value) r)))
      go None = record { is = tt }
      go (Some v) = record {
        is = shows old new false _ _ (shows_key k p span r v)
            (without_key x ts old begun keyed new place wrote (λ key. vTsProp.KeyValue key (pattern env p) r)
            (pattern_key env k.0 (out-Expr k.1)) eo ep e g.is w);
      }
