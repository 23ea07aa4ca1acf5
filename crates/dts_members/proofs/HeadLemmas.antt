-- What is before bodies, by what is written of it.
use Rattle.std.specs.Prelude.{ℕ, Bool, true, false, List, [], ◌∷◌, ◌++◌, length, Option, Some, None}
use Rattle.std.proofs.Common.{◌≡◌, refl, sym, ap, subst, ◌∙◌}
use Rattle.es_token.specs.declared.token.Token.{Token}
use Rattle.es_grammar.specs.declared.rows.NodeKind.{NodeKind}
use Rattle.es_grammar.specs.declared.rows.NodeKind.TheVariants as l
use Rattle.es_ast.specs.declared.ts.ts.TsPart.{TsPart}
use Rattle.es_ast.specs.declared.ast.Param.{Param}
use Rattle.es_lowering.specs.Value.{Value, nil, given, part, as_group, group, first_of}
use Rattle.es_lowering.specs.Functions as functions
use Rattle.es_lowering.specs.TypedParts.{typed_signature, annotation_at, params_part_at}
use Rattle.es_lowering.specs.Lowering.{packed, build, params_of, signature_of}
use Rattle.es_syntax.specs.declared.entry.What.{What}
use Rattle.es_syntax.specs.declared.entry.What.TheVariants as vWhat
use Rattle.es_syntax.specs.declared.cursor.Item.{Item}
use Rattle.es_syntax.specs.Held.{held, made, node_of, parts_of, valued}
use Rattle.es_syntax.specs.Roles.{params_in, signature_in}
use Rattle.es_changed.specs.declared.entry.Change.TheVariants as change
use Rattle.es_changed.specs.declared.entry.ChangedEntry.{ChangedEntry}
use Rattle.es_changed.specs.Shape.{closed, opened, Writes}
use Rattle.es_changed.proofs.Written.{both_written, node_written}
use Rattle.dts_rules.specs.Rules as rules
use Rattle.dts_rules.specs.Rules.{State, in_turn}
use Rattle.dts_draft.specs.declared.draft.Draft.{Draft}
use Rattle.dts_draft.specs.Drafts.{state_of}
use Rattle.dts_draft.specs.Written.{IfThere}
use Rattle.dts_parts.specs.Groups.{annotation_in}
use Rattle.dts_parts.specs.Params.{param_rule, Made}
use Rattle.dts_members.specs.Methods.{ParamsUpTo, HeadUpTo, ResultMade}

module _ (by : rules.Env) (x : List ℕ) (ts : List Token) where
  -- ---- parameters
  pub params_up_to : (old begun mid last new : Draft) (place from to : ℕ) (o : Option (List Param))
      → begun.row ≡ old.row ++ opened → place ≡ length old.row → state_of begun ≡ state_of old
      → IfThere (Made x ts params_in (in_turn (param_rule by)) begun mid) o → Writes x ts mid.row last.row []
      → new.row ≡ closed (change.Old (vWhat.Node l.Signature)) from to place last.row → state_of new ≡ state_of mid
      → IfThere (ParamsUpTo x ts by old new from to) o
  unfolding functions.signature build params_of
  params_up_to old begun mid last new place from to None eo ep sb h g en sn = record { is = tt }
  params_up_to old begun mid last new place from to (Some ps) eo ep sb h g en sn = record {
    is = record {
      made = record {
        state = sn ∙ (h.is.state ∙ ap (λ (s : State). (in_turn (param_rule by) ps s).1) sb);
        puts = record {
          value = node_of x ts l.Signature from to (packed (h.is.puts.value ∷ []));
          writes = node_written x ts l.Signature from to place old.row begun.row last.row new.row
              (h.is.puts.value ∷ []) eo ep
              (both_written x ts begun.row mid.row last.row (h.is.puts.value ∷ []) [] h.is.puts.writes g) en;
          is = h.is.puts.is ∙ ap (λ (s : State). Some (in_turn (param_rule by) ps s).0) sb;
        };
      };
      begins = refl;
      ends = refl;
    };
  }

  -- ---- results
  pub result_gone : (setter : Bool) (old new : List ChangedEntry) (row : Value) → setter ≡ true
      → Writes x ts old new (nil ∷ []) → IfThere (ResultMade x ts by setter old new) (annotation_in row)
  result_gone setter old new row e w =
      subst (λ (setter : Bool). IfThere (ResultMade x ts by setter old new) (annotation_in row)) (sym e)
      (go (annotation_in row))
    where
      go : (o : Option (Option TsPart)) → IfThere (ResultMade x ts by true old new) o
      go None = record { is = tt }
      go (Some ty) = record { is = record { value = nil; writes = w; is = refl } }

  pub result_kept : (setter : Bool) (old mid new : List ChangedEntry) (v : Value) → setter ≡ false
      → Writes x ts old mid (v ∷ []) → Writes x ts mid new []
      → IfThere (ResultMade x ts by setter old new) (annotation_in (as_group v))
  result_kept setter old mid new v e w g =
      subst (λ (setter : Bool). IfThere (ResultMade x ts by setter old new) (annotation_in (as_group v))) (sym e)
      (go (annotation_in (as_group v)) refl)
    where
      go : (o : Option (Option TsPart)) → annotation_in (as_group v) ≡ o
          → IfThere (ResultMade x ts by false old new) o
      go None is = record { is = tt }
      go (Some ty) is =
          record { is = record { value = v; writes = both_written x ts old mid new (v ∷ []) [] w g; is = is } }

  -- ---- signatures
  pub signature_made : (setter : Bool) (old begun first mid last new : Draft) (place from to : ℕ) (p v : Value)
      → part p 1 ≡ v → begun.row ≡ old.row ++ opened → place ≡ length old.row
      → Writes x ts begun.row first.row (part p 0 ∷ []) → state_of first ≡ state_of old
      → IfThere (Made x ts params_in (in_turn (param_rule by)) first mid) (params_in v)
      → IfThere (ResultMade x ts by setter mid.row last.row) (annotation_in (group p 2))
      → new.row ≡ closed (change.Old (vWhat.Node l.TypedSignature)) from to place last.row
      → state_of new ≡ state_of mid → IfThere (HeadUpTo x ts by setter old new from to) (typed_signature p)
  unfolding build signature_of typed_signature
  signature_made setter old begun first mid last new place from to p v e eo ep w0 sf h res en sn =
      go (params_part_at p 0) refl (params_in (part p 1))
      (subst (λ (v : Value). IfThere (Made x ts params_in (in_turn (param_rule by)) first mid) (params_in v)) (sym e) h)
      (annotation_at p 2) res
    where
      go : (tp : Option (Option TsPart)) → params_part_at p 0 ≡ tp → (o : Option (List Param))
          → IfThere (Made x ts params_in (in_turn (param_rule by)) first mid) o → (ret : Option (Option TsPart))
          → IfThere (ResultMade x ts by setter mid.row last.row) ret
          → IfThere (HeadUpTo x ts by setter old new from to) (given tp (λ tp. given o (λ ps.
          given ret (λ ret. Some (tp, ps, ret)))))
      go None et o h ret res = record { is = tt }
      go (Some tp) et None h ret res = record { is = tt }
      go (Some tp) et (Some ps) h None res = record { is = tt }
      go (Some tp) et (Some ps) h (Some ret) res = record {
        is = record {
          made = record {
            state = sn ∙ (h.is.state ∙ ap (λ (s : State). (in_turn (param_rule by) ps s).1) sf);
            puts = record {
              value = node_of x ts l.TypedSignature from to
                  (packed (part p 0 ∷ h.is.puts.value ∷ res.is.value ∷ []));
              writes = node_written x ts l.TypedSignature from to place old.row begun.row last.row new.row
                  (part p 0 ∷ h.is.puts.value ∷ res.is.value ∷ []) eo ep
                  (both_written x ts begun.row first.row last.row (part p 0 ∷ [])
                  (h.is.puts.value ∷ res.is.value ∷ []) w0
                  (both_written x ts first.row mid.row last.row (h.is.puts.value ∷ []) (res.is.value ∷ [])
                  h.is.puts.writes res.is.writes)) en;
              is = ap (λ (o : Option (Option TsPart)). given o (λ tp. given (params_in h.is.puts.value) (λ ps.
                  given (annotation_in (as_group res.is.value)) (λ ret. Some (tp, ps, ret))))) et
                  ∙ (ap (λ (o : Option (List Param)). given o (λ ps.
                  given (annotation_in (as_group res.is.value)) (λ ret. Some (tp, ps, ret)))) h.is.puts.is
                  ∙ (ap (λ (o : Option (Option TsPart)). given o
                  (λ ret. Some (tp, (in_turn (param_rule by) ps (state_of first)).0, ret))) res.is.is
                  ∙ ap (λ (s : State). Some (tp, (in_turn (param_rule by) ps s).0, rules.unless by setter ret)) sf));
            };
          };
          begins = refl;
          ends = refl;
        };
      }

  -- at its place
  pub signature_there : (setter : Bool) (old new : Draft) (to : ℕ) (i : Item) (label : NodeKind)
      → i.what ≡ vWhat.Node label → label ≡ l.TypedSignature
      → IfThere (HeadUpTo x ts by setter old new i.from to) (typed_signature (held x ts i.parts.entries.now))
      → IfThere (HeadUpTo x ts by setter old new (first_of (valued x ts i)) to) (signature_in (valued x ts i))
  unfolding build signature_of
  signature_there setter old new to i label is e h =
      let V : What → Value = λ w.
      made x ts w i.from i.to (held x ts i.parts.entries.now) (parts_of x ts i.parts.entries.now) in
      subst (λ (w : What). IfThere (HeadUpTo x ts by setter old new (first_of (V w)) to) (signature_in (V w)))
      (sym (is ∙ ap (λ (label : NodeKind). vWhat.Node label) e)) h
