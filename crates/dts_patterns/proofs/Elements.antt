-- Elements of arrays, one by one.
use Rattle.std.specs.Prelude.{ℕ, ◌+◌, List, [], ◌∷◌, ◌++◌, Option, Some, None, length, map}
use Rattle.std.proofs.Common.{◌≡◌, refl, sym, ap, subst, ◌∙◌}
use Rattle.es_token.specs.declared.token.Token.{Token}
use Rattle.es_ast.specs.declared.ts.ts.TsParamPat.TheVariants as vTsPat
use Rattle.es_ast.specs.declared.ast.Pat.{Pat}
use Rattle.es_ast.specs.declared.ast.Pat.TheVariants as vPat
use Rattle.es_lowering.specs.Value.{Value, nil, more, given, behind, as_group, group, pat_at, type_pat_at}
use Rattle.es_lowering.specs.Texts.{span_of}
use Rattle.es_lowering.specs.Expressions.{element_of, behind_element, elements}
use Rattle.es_lowering.specs.Lowering.{packed}
use Rattle.es_syntax.specs.declared.entry.What.TheVariants as what
use Rattle.es_syntax.specs.Roles.{pat_in}
use Rattle.es_changed.specs.declared.entry.Change.TheVariants as change
use Rattle.es_changed.specs.declared.entry.ChangedEntry.{ChangedEntry}
use Rattle.es_changed.specs.Shape.{closed, opened, Writes}
use Rattle.es_changed.proofs.Written.{nothing_written, both_written, group_written}
use Rattle.dts_rules.specs.Rules.{Env}
use Rattle.dts_draft.specs.Written.{IfThere}
use Rattle.dts_draft.proofs.There.{lifted}
use Rattle.dts_draft.proofs.Lists.{as_packed}
use Rattle.dts_patterns.specs.Patterns.{pattern, IsPattern, IsElement, IsTurn, AreElements, IsGroup}
use Rattle.dts_patterns.proofs.Equations.{pattern_Hole}

module _ (env : Env) (x : List ℕ) (ts : List Token) where
  -- ---- an element, which may be none
  pub element_hole : {old : List ChangedEntry} {g : Value} (at : ℕ) → g ≡ nil
      → IfThere (IsElement env x ts old old at g) (element_of vPat.Hole pat_at ts at g)
  element_hole {old = old} {g = g} at e =
      subst (λ (g : Value). IfThere (IsElement env x ts old old at g) (element_of vPat.Hole pat_at ts at g)) (sym e)
      (record {
        is = record {
          parts = [];
          writes = nothing_written x ts old;
          ends = refl;
          is = ap Some (sym (pattern_Hole env (span_of ts at at)));
        };
      })

  pub element_one : {old new : List ChangedEntry} {g u us : Value} (at : ℕ) → g ≡ more u us
      → IfThere (IsPattern env x ts old new (behind u)) (pat_in u)
      → IfThere (IsElement env x ts old new at g) (element_of vPat.Hole pat_at ts at g)
  element_one {old = old} {new = new} {g = g} {u = u} {us = us} at e h =
      subst (λ (g : Value). IfThere (IsElement env x ts old new at g) (element_of vPat.Hole pat_at ts at g)) (sym e)
      (lifted {o = pat_in u} (λ it p. record {
        parts = p.value ∷ [];
        writes = p.writes;
        ends = ap (λ (n : ℕ). n + 1) p.ends;
        is = p.is;
      }) h)

  pub element_turned : {old first begun mid past new : List ChangedEntry} {outer inner at : ℕ} {g : Value}
      {o : Option Pat} → first ≡ old ++ opened → outer ≡ length old → begun ≡ first ++ opened → inner ≡ length first
      → IfThere (IsElement env x ts begun mid at g) o → past ≡ closed (change.Old what.Parts) 0 0 inner mid
      → new ≡ closed (change.Old what.Parts) 0 0 outer past → IfThere (IsTurn env x ts old new at g) o
  element_turned {old = old} {first = first} {begun = begun} {mid = mid} {past = past} {new = new} {outer = outer}
      {inner = inner} {at = at} {g = g} {o = o} ef ep eb ei h w v =
      lifted (λ it p. record {
        parts = p.parts;
        writes = group_written x ts 0 0 outer old first past new (packed p.parts ∷ []) ef ep
            (group_written x ts 0 0 inner first begun mid past p.parts eb ei p.writes w) v;
        ends = p.ends;
        is = p.is;
      }) h

  -- ---- elements
  elements_none : (old : List ChangedEntry) (at : ℕ) → IfThere (AreElements env x ts old old at) (Some [])
  elements_none old at = record { is = record { values = []; writes = nothing_written x ts old; are = refl } }

  elements_more : (old mid new : List ChangedEntry) (at : ℕ) (g : Value) (o : Option Pat) (os : Option (List Pat))
      → IfThere (IsTurn env x ts old mid at g) o → IfThere (AreElements env x ts mid new (behind_element at g)) os
      → IfThere (AreElements env x ts old new at) (given o (λ a. given os (λ rest. Some (a ∷ rest))))
  elements_more old mid new at g None os p q = record { is = tt }
  elements_more old mid new at g (Some a) None p q = record { is = tt }
  elements_more old mid new at g (Some a) (Some them) p q =
      let t : IsTurn env x ts old mid at g a = p.is in
      let r : AreElements env x ts mid new (behind_element at g) them = q.is in
      record {
        is = record {
          values = packed (packed t.parts ∷ []) ∷ r.values;
          writes = both_written x ts old mid new (packed (packed t.parts ∷ []) ∷ []) r.values t.writes r.writes;
          are =
              ap (λ (v : Value). given (element_of vTsPat.Hole type_pat_at ts at v)
              (λ b. given (elements vTsPat.Hole type_pat_at ts (behind_element at v) (packed r.values))
              (λ rest. Some (b ∷ rest)))) (as_packed t.parts)
              ∙ (ap (λ o. given o (λ b. given (elements vTsPat.Hole type_pat_at ts (behind_element at (packed t.parts))
              (packed r.values)) (λ rest. Some (b ∷ rest)))) t.is
              ∙ (ap (λ (n : ℕ). given (elements vTsPat.Hole type_pat_at ts n (packed r.values))
              (λ rest. Some (pattern env a ∷ rest))) t.ends
              ∙ ap (λ o. given o (λ rest. Some (pattern env a ∷ rest))) r.are));
        };
      }

  -- what is left leads to all, wherever it stands
  pub record ElementsLeft (start now : List ChangedEntry) (all left : Value) : Type 0 where
    pub leads : (new : List ChangedEntry)
        → ((later : ℕ) → IfThere (AreElements env x ts now new later) (elements vPat.Hole pat_at ts later left))
        → (at : ℕ) → IfThere (AreElements env x ts start new at) (elements vPat.Hole pat_at ts at all)

  pub elements_all : (start : List ChangedEntry) (all : Value) → ElementsLeft start start all all
  elements_all start all = record { leads = λ new h at. h at }

  pub elements_next : {start now next : List ChangedEntry} {all left v rest : Value} → left ≡ more v rest
      → ElementsLeft start now all left
      → ((at : ℕ) → IfThere (IsTurn env x ts now next at (group (as_group v) 0))
      (element_of vPat.Hole pat_at ts at (group (as_group v) 0)))
      → ElementsLeft start next all rest
  elements_next {start = start} {now = now} {next = next} {all = all} {left = left} {v = v} {rest = rest} e before p =
      record {
        leads = λ new h.
            before.leads new (λ later.
            subst (λ (w : Value). IfThere (AreElements env x ts now new later) (elements vPat.Hole pat_at ts later w))
            (sym e)
            (elements_more now next new later (group (as_group v) 0)
            (element_of vPat.Hole pat_at ts later (group (as_group v) 0))
            (elements vPat.Hole pat_at ts (behind_element later (group (as_group v) 0)) rest) (p later)
            (h (behind_element later (group (as_group v) 0)))));
      }

  pub elements_done : {start now : List ChangedEntry} {all left : Value} → left ≡ nil
      → ElementsLeft start now all left
      → (at : ℕ) → IfThere (AreElements env x ts start now at) (elements vPat.Hole pat_at ts at all)
  elements_done {start = start} {now = now} {all = all} {left = left} e before =
      before.leads now (λ later.
      subst (λ (w : Value). IfThere (AreElements env x ts now now later) (elements vPat.Hole pat_at ts later w)) (sym e)
      (elements_none now later))

  pub group_of_elements : {old begun mid new : List ChangedEntry} {place at : ℕ} {os : Option (List Pat)}
      → begun ≡ old ++ opened → place ≡ length old → IfThere (AreElements env x ts begun mid at) os
      → new ≡ closed (change.Old what.Parts) 0 0 place mid → IfThere (IsGroup env x ts old new at) os
  group_of_elements {old = old} {begun = begun} {mid = mid} {new = new} {place = place} {at = at} {os = os} eo ep h w =
      lifted (λ them r. record {
        value = packed r.values;
        writes = group_written x ts 0 0 place old begun mid new r.values eo ep r.writes w;
        are = ap (elements vTsPat.Hole type_pat_at ts at) (as_packed r.values) ∙ r.are;
      }) h
