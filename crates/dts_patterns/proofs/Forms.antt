-- Patterns, from what was written of their parts.
use Rattle.std.specs.Prelude.{ℕ, ◌+◌, Bool, false, List, [], ◌∷◌, ◌++◌, Option, Some, None, option_map, length}
use Rattle.std.proofs.Common.{◌≡◌, refl, sym, ap, ◌∙◌}
use Rattle.base.specs.declared.range.Range.{Range}
use Rattle.es_token.specs.declared.token.Token.{Token}
use Rattle.es_grammar.specs.declared.rows.NodeKind.TheVariants as l
use Rattle.es_ast.specs.declared.ts.ts.TsParamPat.TheVariants as vTsPat
use Rattle.es_ast.specs.declared.ast.Expr.{Expr}
use Rattle.es_ast.specs.declared.ast.ObjectPatProp.{ObjectPatProp}
use Rattle.es_ast.specs.declared.ast.Pat.{Pat}
use Rattle.es_ast.specs.declared.ast.Pat.TheVariants as vPat
use Rattle.es_lowering.specs.Value.{Value, given, turns, pat_at, pat_prop_at}
use Rattle.es_lowering.specs.Texts.{span_of}
use Rattle.es_lowering.specs.Expressions.{elements}
use Rattle.es_lowering.specs.Lowering.{packed}
use Rattle.es_syntax.specs.declared.entry.What.TheVariants as what
use Rattle.es_syntax.specs.Held.{node_of}
use Rattle.es_changed.specs.declared.entry.Change.TheVariants as change
use Rattle.es_changed.specs.declared.entry.Form.TheVariants as form
use Rattle.es_changed.specs.declared.entry.ChangedEntry.{ChangedEntry}
use Rattle.es_changed.specs.Formed.{formed}
use Rattle.es_changed.specs.Shape.{closed, opened, Writes}
use Rattle.es_changed.proofs.Written.{both_written, node_written, form_written}
use Rattle.es_view_expressions.specs.pattern.Pat as pat
use Rattle.dts_rules.specs.Rules.{Env}
use Rattle.dts_draft.specs.Written.{IfThere}
use Rattle.dts_draft.proofs.There.{mapped, lifted}
use Rattle.dts_patterns.specs.Patterns.{IsPattern, IsBracketed, IsGroup, IsPropGroup}
use Rattle.dts_patterns.proofs.Equations.{pattern_Array, pattern_Object, pattern_Rest, pattern_Assign}
use Rattle.dts_patterns.proofs.Nodes.{array_is, array_unnamed, object_is, object_unnamed, rest_is}

module _ (env : Env) (x : List ℕ) (ts : List Token) where
  pub without_brackets : {old new : List ChangedEntry} {to : ℕ} {o : Option Pat}
      → IfThere (IsBracketed env x ts old new to) o → IfThere (IsPattern env x ts old new to) o
  without_brackets {old = old} {new = new} {to = to} {o = o} h = lifted (λ it b. b.inner) h

  pub array_written : {old begun mid past new : List ChangedEntry} {place to : ℕ} (from : ℕ) (v : Value)
      → begun ≡ old ++ opened → place ≡ length old
      → IfThere (IsGroup env x ts begun mid (from + 1)) (elements vPat.Hole pat_at ts (from + 1) v)
      → Writes x ts mid past [] → new ≡ closed (change.Old (what.Node l.ArrayPatternOfType)) from to place past
      → IfThere (IsBracketed env x ts old new to) (pat.array ts (span_of ts from to) from v)
  unfolding pat.array
  array_written {old = old} {begun = begun} {mid = mid} {past = past} {new = new} {place = place} {to = to} from v eo
      ep h gone w =
      mapped (IsGroup env x ts begun mid (from + 1)) (IsBracketed env x ts old new to)
      (λ elems. vPat.Array elems false None (span_of ts from to)) (elements vPat.Hole pat_at ts (from + 1) v)
      (λ them g. record {
        inner = record {
          value = node_of x ts l.ArrayPatternOfType from to (packed (g.value ∷ []));
          writes = node_written x ts l.ArrayPatternOfType from to place old begun past new (g.value ∷ []) eo ep
              (both_written x ts begun mid past (g.value ∷ []) [] g.writes gone) w;
          ends = refl;
          is = array_is x ts from to g.value ∙ (ap (option_map (λ elems. vTsPat.Array elems (span_of ts from to))) g.are
              ∙ ap Some (sym (pattern_Array env them false None (span_of ts from to))));
        };
        unnamed = array_unnamed x ts from to (packed (g.value ∷ []));
      }) h

  pub object_written : {old begun mid past new : List ChangedEntry} {place to : ℕ} (from : ℕ) (v : Value)
      → begun ≡ old ++ opened → place ≡ length old
      → IfThere (IsPropGroup env x ts begun mid) (turns (λ turn. pat_prop_at turn 0) v)
      → Writes x ts mid past [] → new ≡ closed (change.Old (what.Node l.ObjectPatternOfType)) from to place past
      → IfThere (IsBracketed env x ts old new to) (pat.object (span_of ts from to) v)
  unfolding pat.object
  object_written {old = old} {begun = begun} {mid = mid} {past = past} {new = new} {place = place} {to = to} from v eo
      ep h gone w =
      mapped (IsPropGroup env x ts begun mid) (IsBracketed env x ts old new to)
      (λ props. vPat.Object props false None (span_of ts from to)) (turns (λ turn. pat_prop_at turn 0) v)
      (λ them g. record {
        inner = record {
          value = node_of x ts l.ObjectPatternOfType from to (packed (g.value ∷ []));
          writes = node_written x ts l.ObjectPatternOfType from to place old begun past new (g.value ∷ []) eo ep
              (both_written x ts begun mid past (g.value ∷ []) [] g.writes gone) w;
          ends = refl;
          is = object_is x ts from to g.value
              ∙ (ap (option_map (λ props. vTsPat.Object props (span_of ts from to))) g.are
              ∙ ap Some (sym (pattern_Object env them false None (span_of ts from to))));
        };
        unnamed = object_unnamed x ts from to (packed (g.value ∷ []));
      }) h

  pub rest_written : {old begun mid new : List ChangedEntry} {place to end : ℕ} {o : Option Pat} (from : ℕ)
      → begun ≡ old ++ opened → place ≡ length old → IfThere (IsPattern env x ts begun mid end) o
      → new ≡ closed (change.Old (what.Node l.RestPatternOfType)) from to place mid
      → IfThere (IsPattern env x ts old new to) (pat.rest (span_of ts from to) o)
  unfolding pat.rest
  rest_written {old = old} {begun = begun} {mid = mid} {new = new} {place = place} {to = to} {end = end} {o = o} from
      eo ep h w =
      mapped (IsPattern env x ts begun mid end) (IsPattern env x ts old new to)
      (λ arg. vPat.Rest arg None (span_of ts from to)) o
      (λ arg g. record {
        value = node_of x ts l.RestPatternOfType from to (packed (g.value ∷ []));
        writes = node_written x ts l.RestPatternOfType from to place old begun mid new (g.value ∷ []) eo ep g.writes w;
        ends = refl;
        is = rest_is x ts from to g.value ∙ (ap (option_map (λ arg. vTsPat.Rest arg (span_of ts from to))) g.is
            ∙ ap Some (sym (pattern_Rest env arg None (span_of ts from to))));
      }) h

  pub default_written : {old begun mid past new : List ChangedEntry} {place to end : ℕ} {left : Option Pat} (from : ℕ)
      (right : Option Expr) → begun ≡ old ++ opened → place ≡ length old
      → IfThere (IsPattern env x ts begun mid end) left → Writes x ts mid past []
      → new ≡ closed (change.Form form.Pattern) from to place past
      → IfThere (IsPattern env x ts old new to) (pat.default (span_of ts from to) left right)
  unfolding pat.default
  default_written {old = old} {begun = begun} {mid = mid} {past = past} {new = new} {place = place} {to = to}
      {end = end} {left = None} from right eo ep h gone w =
      record { is = tt }
  default_written {old = old} {begun = begun} {mid = mid} {past = past} {new = new} {place = place} {to = to}
      {end = end} {left = Some left} from None eo ep h gone w =
      record { is = tt }
  default_written {old = old} {begun = begun} {mid = mid} {past = past} {new = new} {place = place} {to = to}
      {end = end} {left = Some left} from (Some right) eo ep h gone w =
      let g : IsPattern env x ts begun mid end left = h.is in
      record {
        is = record {
          value = formed x ts form.Pattern from to (packed (g.value ∷ []));
          writes = form_written x ts form.Pattern from to place old begun past new (g.value ∷ []) eo ep
              (both_written x ts begun mid past (g.value ∷ []) [] g.writes gone) w;
          ends = refl;
          is = g.is ∙ ap Some (sym (pattern_Assign env left right (span_of ts from to)));
        };
      }
