-- What lists of parameters are, by what is written of them.
use Rattle.std.specs.Prelude.{ℕ, List, [], ◌∷◌, ◌++◌, length, Option, Some, None, option_map}
use Rattle.std.proofs.Common.{◌≡◌, ◌-◌, refl, sym, ap, subst, ◌∙◌}
use Rattle.base.specs.declared.range.Range.{Range}
use Rattle.es_token.specs.declared.token.Token.{Token}
use Rattle.es_grammar.specs.declared.rows.NodeKind.{NodeKind}
use Rattle.es_grammar.specs.declared.rows.NodeKind.TheVariants as l
use Rattle.es_ast.specs.declared.ts.ts.TsPart.{TsPart}
use Rattle.es_ast.specs.declared.ast.Param.{Param}
use Rattle.es_ast.specs.declared.ast.Pat.{Pat}
use Rattle.es_ast.specs.declared.ast.Pat.TheVariants as vPat
use Rattle.es_lowering.specs.Value.{Value, absent, nil, more, token, node, behind, first_of, given, part, as_group, group, optional, option_list, turns, param_at, pat_at}
use Rattle.es_lowering.specs.Texts.{span_of}
use Rattle.es_lowering.specs.TypeNames.{behind_in}
use Rattle.es_lowering.specs.Functions as functions
use Rattle.es_lowering.specs.Functions.{plain}
use Rattle.es_lowering.specs.TypedParts as typed_parts
use Rattle.es_lowering.specs.TypedParts.{annotation_at}
use Rattle.es_lowering.specs.Lowering.{packed, build, params_of}
use Rattle.es_syntax.specs.declared.entry.What.{What}
use Rattle.es_syntax.specs.declared.entry.What.TheVariants as vWhat
use Rattle.es_syntax.specs.declared.cursor.Item.{Item}
use Rattle.es_syntax.specs.Held.{held, made, node_of, parts_of, valued}
use Rattle.es_syntax.specs.Roles.{param_in, params_in}
use Rattle.es_changed.specs.declared.entry.Change.TheVariants as change
use Rattle.es_changed.specs.declared.entry.ChangedEntry.{ChangedEntry}
use Rattle.es_changed.specs.Shape.{closed, opened, Writes}
use Rattle.es_changed.proofs.Written.{both_written, group_written, node_written}
use Rattle.dts_rules.specs.Rules.{Env, Run, State, in_turn}
use Rattle.dts_draft.specs.declared.draft.Draft.{Draft}
use Rattle.dts_draft.specs.Drafts.{state_of}
use Rattle.dts_draft.specs.Written.{IfThere, PutsAll}
use Rattle.dts_draft.proofs.Lists.{as_packed, puts_none, puts_both, read_turns}
use Rattle.dts_enums.specs.Enums.{Something}
use Rattle.dts_parts.specs.Params.{param_rule, param_turn, Made, AllMade}
use Rattle.dts_parts.proofs.PatternLemmas as patterns
use Rattle.dts_parts.proofs.ParamLemmas as params

-- ---- one after the other
module _ (x : List ℕ) (ts : List Token) {A B : Type 0} (role : Value → Option B) (f : A → Run B) where
  pub made_none : (old : Draft) → AllMade x ts role f old old []
  made_none old = record { state = refl; puts = puts_none x ts role old.row }

  pub made_more : (old mid new : Draft) (it : A) (them : List A) → Made x ts role f old mid it
      → AllMade x ts role f mid new them → AllMade x ts role f old new (it ∷ them)
  made_more old mid new it them m h = record {
    state = h.state ∙ ap (λ (s : State). (in_turn f them s).1) m.state;
    puts = puts_both x ts role old.row mid.row new.row ((f it (state_of old)).0 ∷ [])
        (in_turn f them (f it (state_of old)).1).0
        (record { values = m.puts.value ∷ []; writes = m.puts.writes; are = ap (λ o. o ∷ []) m.puts.is })
        (subst (λ (s : State). PutsAll x ts role mid.row new.row (in_turn f them s).0) m.state h.puts);
  }

  -- what is left leads to all
  pub record AllLeft (one : Value → Option A) (start now : Draft) (all left : Value) : Type 0 where
    pub leads : (new : Draft) → IfThere (AllMade x ts role f now new) (turns one left)
        → IfThere (AllMade x ts role f start new) (turns one all)

  pub left_all : (one : Value → Option A) (start : Draft) (all : Value) → AllLeft one start start all all
  left_all one start all = record { leads = λ new h. h }

  more_left : (old mid new : Draft) (o : Option A) (os : Option (List A)) → IfThere (Made x ts role f old mid) o
      → IfThere (AllMade x ts role f mid new) os
      → IfThere (AllMade x ts role f old new) (given o (λ a. given os (λ rest. Some (a ∷ rest))))
  more_left old mid new None os m h = record { is = tt }
  more_left old mid new (Some a) None m h = record { is = tt }
  more_left old mid new (Some a) (Some them) m h = record { is = made_more old mid new a them m.is h.is }

  pub left_next : (one : Value → Option A) (start now next : Draft) (all left v rest : Value) → left ≡ more v rest
      → AllLeft one start now all left → IfThere (Made x ts role f now next) (one (as_group v))
      → AllLeft one start next all rest
  left_next one start now next all left v rest e before m = record {
    leads = λ new h.
        before.leads new (subst (λ (w : Value). IfThere (AllMade x ts role f now new) (turns one w)) (sym e)
        (more_left now next new (one (as_group v)) (turns one rest) m h));
  }

  pub left_done : (one : Value → Option A) (start now : Draft) (all left : Value) → left ≡ nil
      → AllLeft one start now all left → IfThere (AllMade x ts role f start now) (turns one all)
  left_done one start now all left e before =
      before.leads now (subst (λ (w : Value). IfThere (AllMade x ts role f now now) (turns one w)) (sym e)
      (record { is = made_none now }))

-- the last one stays
abbrev Same : {A : Type 0} → (A → Run A) → A → Type 0
Same f it = (s : State) → f it s ≡ (it, s)

with_last : {A : Type 0} (f : A → Run A) (them : List A) (last : Option A) → IfThere (Same f) last → (s : State)
    → in_turn f (them ++ option_list last) s ≡ ((in_turn f them s).0 ++ option_list last, (in_turn f them s).1)
with_last f [] None h s = refl
with_last {A = A} f [] (Some a) h s = ap (λ (p : A × State). (p.0 ∷ [], p.1)) (h.is s)
with_last {A = A} f (a ∷ them) last h s =
    ap (λ (p : List A × State). ((f a s).0 ∷ p.0, p.1)) (with_last f them last h (f a s).1)

module _ (by : Env) (x : List ℕ) (ts : List Token) where
  -- ---- in a turn
  pub turn_made : (old begun mid more_ new : Draft) (place : ℕ) (g w v : Value) → g ≡ as_group w
      → part g 0 ≡ v → begun.row ≡ old.row ++ opened → place ≡ length old.row → state_of begun ≡ state_of old
      → IfThere (Made x ts param_in (param_rule by) begun mid) (param_in v) → Something x ts mid.row more_.row
      → new.row ≡ closed (change.Old vWhat.Parts) 0 0 place more_.row → state_of new ≡ state_of mid
      → IfThere (Made x ts (param_turn x ts) (param_rule by) old new) (param_at (as_group w) 0)
  turn_made old begun mid more_ new place g w v eg ev eo ep sb h s en sn =
      subst (λ (v : Value). IfThere (Made x ts (param_turn x ts) (param_rule by) old new) (param_in v))
      (sym (ap (λ (g : Value). part g 0) (sym eg) ∙ ev)) (go (param_in v) h)
    where
      go : (o : Option Param) → IfThere (Made x ts param_in (param_rule by) begun mid) o
          → IfThere (Made x ts (param_turn x ts) (param_rule by) old new) o
      go None h = record { is = tt }
      go (Some it) h = record {
        is = record {
          state = sn ∙ (h.is.state ∙ ap (λ (s : State). (param_rule by it s).1) sb);
          puts = record {
            value = packed (h.is.puts.value ∷ s.values);
            writes = group_written x ts 0 0 place old.row begun.row more_.row new.row (h.is.puts.value ∷ s.values) eo ep
                (both_written x ts begun.row mid.row more_.row (h.is.puts.value ∷ []) s.values h.is.puts.writes
                s.writes)
                en;
            is = h.is.puts.is ∙ ap (λ (s : State). Some (param_rule by it s).0) sb;
          };
        };
      }

  -- ---- the last parameter
  rest_same : (r span : Range) (arg : Pat) (a : Option TsPart)
      → Same (param_rule by) (typed_parts.param_by plain r (vPat.Rest arg a span))
  rest_same r span arg a s =
      params.plain_ruled by r (vPat.Rest arg a span) s
      ∙ ap (λ (p : Pat × State). (typed_parts.param_by plain r p.0, p.1)) (patterns.pat_rest by arg a span s)

  plain_last : (v : Value) → IfThere (IfThere (Same (param_rule by))) (optional (functions.rest_at ts) v)
  plain_last (more v vs) = go (pat_at (more v vs) 0)
    where
      r : Range
      r = span_of ts (first_of (part (more v vs) 0) - 1) (behind (part (more v vs) 0))

      go : (o : Option Pat)
          → IfThere (IfThere (Same (param_rule by))) (option_map Some (option_map (functions.rest_of r) o))
      go None = record { is = tt }
      go (Some p) = record { is = record { is = rest_same r r p None } }
  plain_last absent = record { is = record { is = tt } }
  plain_last nil = record { is = record { is = tt } }
  plain_last (token n) = record { is = record { is = tt } }
  plain_last (node from to m) = record { is = record { is = tt } }

  typed_last : (v : Value) → IfThere (IfThere (Same (param_rule by))) (optional (typed_parts.typed_rest_at ts) v)
  typed_last (more v vs) = go (pat_at (more v vs) 0) (annotation_at (more v vs) 1)
    where
      r : Range
      r = span_of ts (first_of (part (more v vs) 0) - 1)
          (behind_in (group (more v vs) 1) (behind (part (more v vs) 0)))

      go : (o : Option Pat) (a : Option (Option TsPart))
          → IfThere (IfThere (Same (param_rule by))) (option_map Some (given o (λ pat. given a (λ ty.
          Some (typed_parts.typed_rest_of r pat ty)))))
      go None a = record { is = tt }
      go (Some p) None = record { is = tt }
      go (Some p) (Some a) = record { is = record { is = rest_same r r p a } }
  typed_last absent = record { is = record { is = tt } }
  typed_last nil = record { is = record { is = tt } }
  typed_last (token n) = record { is = record { is = tt } }
  typed_last (node from to m) = record { is = record { is = tt } }

  -- ---- a list
  abbrev All : Draft → Draft → Option (List Param) → Type 0
  All old new o = IfThere (Made x ts params_in (in_turn (param_rule by)) old new) o

  abbrev Listed : Option (List Param) → Option (Option Param) → Option (List Param)
  Listed all rest = given all (λ all. given rest (λ rest. Some (all ++ option_list rest)))

  list_made : (old begun filled new : Draft) (v : Value) (vs : List Value) (all : List Param) (rest : Option Param)
      → Writes x ts old.row new.row (v ∷ []) → state_of begun ≡ state_of old → state_of new ≡ state_of filled
      → (h : AllMade x ts (param_turn x ts) (param_rule by) begun filled all) → IfThere (Same (param_rule by)) rest
      → ((them : List Param) → turns (λ turn. param_at turn 0) (packed h.puts.values) ≡ Some them
      → params_in v ≡ Some (them ++ option_list rest))
      → Made x ts params_in (in_turn (param_rule by)) old new (all ++ option_list rest)
  list_made old begun filled new v vs all rest w sb sn h last reads =
      let e : in_turn (param_rule by) (all ++ option_list rest) (state_of old)
      ≡ ((in_turn (param_rule by) all (state_of begun)).0 ++ option_list rest, state_of filled) =
      ap (in_turn (param_rule by) (all ++ option_list rest)) (sym sb)
      ∙ (with_last (param_rule by) all rest last (state_of begun)
      ∙ ap (λ (s : State). ((in_turn (param_rule by) all (state_of begun)).0 ++ option_list rest, s)) (sym h.state)) in
      record {
        state = sn ∙ ap (λ (p : List Param × State). p.1) (sym e);
        puts = record {
          value = v;
          writes = w;
          is = reads (in_turn (param_rule by) all (state_of begun)).0
              (read_turns (λ turn. param_at turn 0) h.puts.values (in_turn (param_rule by) all (state_of begun)).0
              h.puts.are)
              ∙ ap (λ (p : List Param × State). Some p.0) (sym e);
        };
      }

  written : (label : NodeKind) (old begun grouped filled closed_ kept new : List ChangedEntry)
      (place spot from to : ℕ) (vs : List Value) (last : Value) → begun ≡ old ++ opened → place ≡ length old
      → grouped ≡ begun ++ opened → spot ≡ length begun → Writes x ts grouped filled vs
      → closed_ ≡ closed (change.Old vWhat.Parts) 0 0 spot filled → Writes x ts closed_ kept (last ∷ [])
      → new ≡ closed (change.Old (vWhat.Node label)) from to place kept
      → Writes x ts old new (node_of x ts label from to (packed (packed vs ∷ last ∷ [])) ∷ [])
  written label old begun grouped filled closed_ kept new place spot from to vs last eo ep eg es w ec wl en =
      node_written x ts label from to place old begun kept new (packed vs ∷ last ∷ []) eo ep
      (both_written x ts begun closed_ kept (packed vs ∷ []) (last ∷ [])
      (group_written x ts 0 0 spot begun grouped filled closed_ vs eg es w ec) wl) en

  pub plain_list : (old begun grouped filled closed_ kept new : Draft) (place spot from to : ℕ) (p row : Value)
      → row ≡ group p 0
      → begun.row ≡ old.row ++ opened → place ≡ length old.row → grouped.row ≡ begun.row ++ opened
      → spot ≡ length begun.row → state_of grouped ≡ state_of old
      → IfThere (AllMade x ts (param_turn x ts) (param_rule by) grouped filled) (turns (λ turn. param_at turn 0) row)
      → closed_.row ≡ closed (change.Old vWhat.Parts) 0 0 spot filled.row
      → Writes x ts closed_.row kept.row (part p 1 ∷ [])
      → new.row ≡ closed (change.Old (vWhat.Node l.Parameters)) from to place kept.row → state_of new ≡ state_of filled
      → All old new (functions.parameters ts p)
  unfolding functions.parameters build params_of
  plain_list old begun grouped filled closed_ kept new place spot from to p row er eo ep eg es sg h ec wl en sn =
      subst (λ (row : Value). All old new (Listed (turns (λ turn. param_at turn 0) row)
      (optional (functions.rest_at ts) (group p 1)))) er
      (go (turns (λ turn. param_at turn 0) row) (optional (functions.rest_at ts) (group p 1)) refl h
      (plain_last (group p 1)))
    where
      go : (all : Option (List Param)) (rest : Option (Option Param))
          → optional (functions.rest_at ts) (group p 1) ≡ rest
          → IfThere (AllMade x ts (param_turn x ts) (param_rule by) grouped filled) all
          → IfThere (IfThere (Same (param_rule by))) rest → All old new (Listed all rest)
      go None rest is h last = record { is = tt }
      go (Some all) None is h last = record { is = tt }
      go (Some all) (Some rest) is h last = record {
        is = list_made old grouped filled new
            (node_of x ts l.Parameters from to (packed (packed h.is.puts.values ∷ part p 1 ∷ []))) h.is.puts.values all
            rest
            (written l.Parameters old.row begun.row grouped.row filled.row closed_.row kept.row new.row place spot from
            to
            h.is.puts.values (part p 1) eo ep eg es h.is.puts.writes ec wl en) sg sn h.is last.is
            (λ them e.
            ap (λ (v : Value). Listed (turns (λ turn. param_at turn 0) v) (optional (functions.rest_at ts) (group p 1)))
            (as_packed h.is.puts.values)
            ∙ (ap (λ (o : Option (List Param)). Listed o (optional (functions.rest_at ts) (group p 1))) e
            ∙ ap (λ (o : Option (Option Param)). Listed (Some them) o) is));
      }

  pub typed_list : (old begun grouped filled closed_ kept new : Draft) (place spot from to : ℕ) (p row : Value)
      → row ≡ group p 0
      → begun.row ≡ old.row ++ opened → place ≡ length old.row → grouped.row ≡ begun.row ++ opened
      → spot ≡ length begun.row → state_of grouped ≡ state_of old
      → IfThere (AllMade x ts (param_turn x ts) (param_rule by) grouped filled) (turns (λ turn. param_at turn 0) row)
      → closed_.row ≡ closed (change.Old vWhat.Parts) 0 0 spot filled.row
      → Writes x ts closed_.row kept.row (part p 1 ∷ [])
      → new.row ≡ closed (change.Old (vWhat.Node l.TypedParameters)) from to place kept.row
      → state_of new ≡ state_of filled → All old new (typed_parts.typed_parameters ts p)
  unfolding typed_parts.typed_parameters build params_of
  typed_list old begun grouped filled closed_ kept new place spot from to p row er eo ep eg es sg h ec wl en sn =
      subst (λ (row : Value). All old new (Listed (turns (λ turn. param_at turn 0) row)
      (optional (typed_parts.typed_rest_at ts) (group p 1)))) er
      (go (turns (λ turn. param_at turn 0) row) (optional (typed_parts.typed_rest_at ts) (group p 1)) refl h
      (typed_last (group p 1)))
    where
      go : (all : Option (List Param)) (rest : Option (Option Param))
          → optional (typed_parts.typed_rest_at ts) (group p 1) ≡ rest
          → IfThere (AllMade x ts (param_turn x ts) (param_rule by) grouped filled) all
          → IfThere (IfThere (Same (param_rule by))) rest → All old new (Listed all rest)
      go None rest is h last = record { is = tt }
      go (Some all) None is h last = record { is = tt }
      go (Some all) (Some rest) is h last = record {
        is = list_made old grouped filled new
            (node_of x ts l.TypedParameters from to (packed (packed h.is.puts.values ∷ part p 1 ∷ [])))
            h.is.puts.values all
            rest
            (written l.TypedParameters old.row begun.row grouped.row filled.row closed_.row kept.row new.row place spot
            from
            to h.is.puts.values (part p 1) eo ep eg es h.is.puts.writes ec wl en) sg sn h.is last.is
            (λ them e.
            ap (λ (v : Value). Listed (turns (λ turn. param_at turn 0) v)
            (optional (typed_parts.typed_rest_at ts) (group p 1))) (as_packed h.is.puts.values)
            ∙ (ap (λ (o : Option (List Param)). Listed o (optional (typed_parts.typed_rest_at ts) (group p 1))) e
            ∙ ap (λ (o : Option (Option Param)). Listed (Some them) o) is));
      }

  -- in parentheses
  pub bracketed_list : (old begun mid new : Draft) (place from to : ℕ) (p v : Value) → part p 0 ≡ v
      → begun.row ≡ old.row ++ opened → place ≡ length old.row → state_of begun ≡ state_of old
      → All begun mid (params_in v) → new.row ≡ closed (change.Old (vWhat.Node l.Signature)) from to place mid.row
      → state_of new ≡ state_of mid → All old new (functions.signature p)
  unfolding functions.signature build params_of
  bracketed_list old begun mid new place from to p v e eo ep sb h en sn =
      subst (λ (v : Value). All old new (params_in v)) (sym e) (go (params_in v) h)
    where
      go : (o : Option (List Param)) → All begun mid o → All old new o
      go None h = record { is = tt }
      go (Some ps) h = record {
        is = record {
          state = sn ∙ (h.is.state ∙ ap (λ (s : State). (in_turn (param_rule by) ps s).1) sb);
          puts = record {
            value = node_of x ts l.Signature from to (packed (h.is.puts.value ∷ []));
            writes = node_written x ts l.Signature from to place old.row begun.row mid.row new.row
                (h.is.puts.value ∷ []) eo
                ep h.is.puts.writes en;
            is = h.is.puts.is ∙ ap (λ (s : State). Some (in_turn (param_rule by) ps s).0) sb;
          };
        };
      }

  -- at its place
  pub list_there : (old new : Draft) (i : Item) (label : NodeKind) → i.what ≡ vWhat.Node label
      → All old new (params_of x ts label (held x ts i.parts.entries.now)) → All old new (params_in (valued x ts i))
  unfolding build
  list_there old new i label is h =
      subst (λ (w : What). All old new (params_in
      (made x ts w i.from i.to (held x ts i.parts.entries.now) (parts_of x ts i.parts.entries.now)))) (sym is) h

  pub plain_label : (old new : Draft) (p : Value) → All old new (functions.parameters ts p)
      → All old new (params_of x ts l.Parameters p)
  unfolding params_of
  plain_label old new p h = h

  pub typed_label : (old new : Draft) (p : Value) → All old new (typed_parts.typed_parameters ts p)
      → All old new (params_of x ts l.TypedParameters p)
  unfolding params_of
  typed_label old new p h = h

  pub bracketed_label : (old new : Draft) (p : Value) → All old new (functions.signature p)
      → All old new (params_of x ts l.Signature p)
  unfolding params_of
  bracketed_label old new p h = h
