-- Names, and what they are in a type.
use Rattle.std.specs.Prelude.{ℕ, ◌+◌, List, [], ◌∷◌, Option, Some, None, option_map, slice_get}
use Rattle.std.proofs.Common.{◌≡◌, refl, sym, ap, ◌∙◌}
use Rattle.es_token.specs.declared.token.Token.{Token}
use Rattle.es_grammar.specs.declared.rows.NodeKind.TheVariants as l
use Rattle.es_ast.specs.declared.ts.ts.TsParamPat.TheVariants as vTsPat
use Rattle.es_lowering.specs.Value.{token}
use Rattle.es_lowering.specs.Texts.{ident_of}
use Rattle.es_lowering.specs.Patterns.{ident_pat}
use Rattle.es_lowering.specs.Lowering.{packed}
use Rattle.es_syntax.specs.Held.{node_of}
use Rattle.es_changed.specs.declared.entry.ChangedEntry.{ChangedEntry}
use Rattle.es_changed.specs.Shape.{Writes}
use Rattle.es_changed.proofs.Written.{both_written}
use Rattle.es_view_expressions.specs.pattern.Pat as pat
use Rattle.dts_rules.specs.Rules.{Env}
use Rattle.dts_draft.specs.Written.{IfThere}
use Rattle.dts_patterns.specs.Patterns.{IsName, IsPattern}
use Rattle.dts_patterns.proofs.Equations.{pattern_Ident}
use Rattle.dts_patterns.proofs.Nodes.{name_is, own_name_is}

module _ (x : List ℕ) (ts : List Token) where
  -- where the text goes on with it
  pub name_alone : (at : ℕ) (old mid new : List ChangedEntry) → Writes x ts old mid []
      → Writes x ts mid new (node_of x ts l.NamePatternOfType at (at + 1) (packed (token at ∷ [])) ∷ [])
      → IfThere (IsName x ts old new) (slice_get ts at)
  name_alone at old mid new gone w = go (slice_get ts at) refl
    where
      go : (o : Option Token) → slice_get ts at ≡ o → IfThere (IsName x ts old new) o
      go None e = record { is = tt }
      go (Some t) e = record {
        is = record {
          value = node_of x ts l.NamePatternOfType at (at + 1) (packed (token at ∷ []));
          writes = both_written x ts old mid new [] _ gone w;
          reads = name_is x ts at (at + 1) at ∙ ap (λ o. option_map vTsPat.Ident (option_map (ident_of x) o)) e;
          name = own_name_is x ts at (at + 1) at ∙ ap (option_map (ident_of x)) e;
        };
      }

-- over the tokens of its node
pub name_node : (env : Env) (x : List ℕ) (ts : List Token) (at from to : ℕ) (old new : List ChangedEntry)
    → Writes x ts old new (node_of x ts l.NamePatternOfType from to (packed (token at ∷ [])) ∷ [])
    → IfThere (IsPattern env x ts old new to) (pat.ident x (slice_get ts at))
unfolding pat.ident
name_node env x ts at from to old new w = go (slice_get ts at) refl
  where
    go : (o : Option Token) → slice_get ts at ≡ o → IfThere (IsPattern env x ts old new to) (option_map (ident_pat x) o)
    go None e = record { is = tt }
    go (Some t) e = record {
      is = record {
        value = node_of x ts l.NamePatternOfType from to (packed (token at ∷ []));
        writes = w;
        ends = refl;
        is = name_is x ts from to at ∙ (ap (λ o. option_map vTsPat.Ident (option_map (ident_of x) o)) e
            ∙ ap Some (sym (pattern_Ident env (ident_of x t) None t.range)));
      };
    }
