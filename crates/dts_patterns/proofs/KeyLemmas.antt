-- Keys of patterns as keys of types.
use Rattle.std.specs.Prelude.{ℕ, ◌+◌, Bool, true, false, List, [], ◌∷◌, Option, Some, None, option_map, if◌then◌else◌, slice_get}
use Rattle.std.proofs.Common.{◌≡◌, refl, sym, ap, subst, ◌∙◌}
use Rattle.std.proofs.lemmas.Bool.{true≢false}
use Rattle.es_token.specs.declared.token.Token.{Token}
use Rattle.es_token.specs.declared.token.TokenKind.TheVariants as k
use Rattle.grammar_theory.specs.Key.{same_kind}
use Rattle.es_grammar.specs.declared.rows.NodeKind.TheVariants as l
use Rattle.es_ast.specs.declared.ts.leaf.Ident.{Ident}
use Rattle.es_ast.specs.declared.ts.leaf.TsKey.{TsKey}
use Rattle.es_ast.specs.declared.ts.leaf.TsKey.TheVariants as vKey
use Rattle.es_ast.specs.declared.leaf.Lit.TheVariants as vLit
use Rattle.es_ast.specs.declared.ast.Expr.{Expr, out-Expr}
use Rattle.es_ast.specs.declared.ast.Expr.TheVariants as vExpr
use Rattle.es_lowering.specs.Value.{token, given}
use Rattle.es_lowering.specs.Texts.{ident_of, str_of, private_of, numeric_of}
use Rattle.es_lowering.specs.TypeTexts.{number_of, big_of}
use Rattle.es_lowering.specs.Functions.{Key}
use Rattle.es_lowering.specs.Lowering.{packed}
use Rattle.es_syntax.specs.Held.{node_of}
use Rattle.es_syntax.specs.Roles.{type_key_in}
use Rattle.es_changed.specs.declared.entry.ChangedEntry.{ChangedEntry}
use Rattle.es_changed.specs.Shape.{Writes}
use Rattle.es_changed.proofs.Written.{nothing_written}
use Rattle.es_view_expressions.specs.member.Key as key
use Rattle.dts_rules.specs.Rules.{Env, pattern_key}
use Rattle.dts_draft.specs.Drafts.{is_kind}
use Rattle.dts_draft.specs.Written.{IfThere, Puts, Gives}
use Rattle.dts_patterns.specs.Patterns.{IsKey}
use Rattle.dts_patterns.proofs.Equations.{out_Ident, out_Lit, out_PrivateName}
use Rattle.dts_patterns.proofs.Nodes.{word_key_is, str_key_is, number_key_is}

module _ (env : Env) (x : List ℕ) (ts : List Token) where
  -- a key that is written, or one that isn't
  written : (old new : List ChangedEntry) (o : Option TsKey) (a : TsKey) → o ≡ Some a → Puts x ts type_key_in old new a
      → Gives x ts type_key_in old new true o
  written old new o a e p = subst (Gives x ts type_key_in old new true) (sym e) (refl, p)

  left_out : (old : List ChangedEntry) (o : Option TsKey) → o ≡ None → Gives x ts type_key_in old old false o
  left_out old o e = subst (Gives x ts type_key_in old old false) (sym e) (refl, nothing_written x ts old)

  pub word_written : (at : ℕ) (old new : List ChangedEntry)
      → Writes x ts old new (node_of x ts l.WordKeyOfType at (at + 1) (packed (token at ∷ [])) ∷ [])
      → IsKey env x ts old new true (key.word x (slice_get ts at))
  unfolding key.word
  word_written at old new w = go (slice_get ts at) refl
    where
      go : (o : Option Token) → slice_get ts at ≡ o
          → IsKey env x ts old new true (option_map (λ t. (false, vExpr.Ident (ident_of x t))) o)
      go None e = record { is = tt }
      go (Some t) e = record {
        is = written old new _ (vKey.Ident (ident_of x t)) (ap (pattern_key env false) (out_Ident (ident_of x t)))
            (record {
              value = node_of x ts l.WordKeyOfType at (at + 1) (packed (token at ∷ []));
              writes = w;
              is = word_key_is x ts at (at + 1) at ∙ ap (λ o. option_map vKey.Ident (option_map (ident_of x) o)) e;
            });
      }

  pub str_written : (at : ℕ) (old new : List ChangedEntry)
      → Writes x ts old new (node_of x ts l.StrKeyOfType at (at + 1) (packed (token at ∷ [])) ∷ [])
      → IsKey env x ts old new true (key.str x (slice_get ts at))
  unfolding key.str
  str_written at old new w = go (slice_get ts at) refl
    where
      go : (o : Option Token) → slice_get ts at ≡ o
          → IsKey env x ts old new true (option_map (λ t. (false, vExpr.Lit (vLit.Str (str_of x t)))) o)
      go None e = record { is = tt }
      go (Some t) e = record {
        is = written old new _ (vKey.Str (str_of x t)) (ap (pattern_key env false) (out_Lit (vLit.Str (str_of x t))))
            (record {
              value = node_of x ts l.StrKeyOfType at (at + 1) (packed (token at ∷ []));
              writes = w;
              is = str_key_is x ts at (at + 1) at ∙ ap (λ o. option_map vKey.Str (option_map (str_of x) o)) e;
            });
      }

  -- a number; a BigInt is none
  number_by : (old new : List ChangedEntry) (t : Token) (b big : Bool)
      → (b ≡ true → Gives x ts type_key_in old new true
      (pattern_key env false (out-Expr (vExpr.Lit (vLit.Num (number_of x t))))))
      → b ≡ true
      → IsKey env x ts old new true (option_map (λ lit. (false, vExpr.Lit lit))
      (if b then Some (vLit.Num (number_of x t)) else (if big then Some (vLit.BigInt (big_of x t)) else None)))
  number_by old new t true big g e = record { is = g refl }
  number_by old new t false big g e = absurd (true≢false (sym e))

  pub number_written : (at : ℕ) (old new : List ChangedEntry) → is_kind k.Number (slice_get ts at) ≡ true
      → Writes x ts old new (node_of x ts l.NumberKeyOfType at (at + 1) (packed (token at ∷ [])) ∷ [])
      → IsKey env x ts old new true (key.number x (slice_get ts at))
  unfolding key.number numeric_of number_of big_of
  number_written at old new is w = go (slice_get ts at) refl is
    where
      go : (o : Option Token) → slice_get ts at ≡ o → is_kind k.Number o ≡ true
          → IsKey env x ts old new true (option_map (λ lit. (false, vExpr.Lit lit)) (given o (numeric_of x)))
      go None e is = record { is = tt }
      go (Some t) e is =
          number_by old new t (same_kind t.kind k.Number) (same_kind t.kind k.BigInt)
          (λ b. written old new _ (vKey.Num (number_of x t))
          (ap (pattern_key env false) (out_Lit (vLit.Num (number_of x t))))
          (record {
            value = node_of x ts l.NumberKeyOfType at (at + 1) (packed (token at ∷ []));
            writes = w;
            is = number_key_is x ts at (at + 1) at ∙ ap (λ o. option_map vKey.Num (option_map (number_of x) o)) e;
          })) is

  none_by : (old : List ChangedEntry) (t : Token) (b big : Bool) → b ≡ false
      → IsKey env x ts old old false (option_map (λ lit. (false, vExpr.Lit lit))
      (if b then Some (vLit.Num (number_of x t)) else (if big then Some (vLit.BigInt (big_of x t)) else None)))
  none_by old t true big e = absurd (true≢false e)
  none_by old t false true e =
      record { is = left_out old _ (ap (pattern_key env false) (out_Lit (vLit.BigInt (big_of x t)))) }
  none_by old t false false e = record { is = tt }

  pub number_none : (at : ℕ) (old : List ChangedEntry) → is_kind k.Number (slice_get ts at) ≡ false
      → IsKey env x ts old old false (key.number x (slice_get ts at))
  unfolding key.number numeric_of number_of big_of
  number_none at old isnt = go (slice_get ts at) isnt
    where
      go : (o : Option Token) → is_kind k.Number o ≡ false
          → IsKey env x ts old old false (option_map (λ lit. (false, vExpr.Lit lit)) (given o (numeric_of x)))
      go None isnt = record { is = tt }
      go (Some t) isnt = none_by old t (same_kind t.kind k.Number) (same_kind t.kind k.BigInt) isnt

  -- any other key
  pub computed_none : (old : List ChangedEntry) (o : Option Expr) → IsKey env x ts old old false (key.computed o)
  unfolding key.computed
  computed_none old None = record { is = tt }
  computed_none old (Some e) = record { is = (refl, nothing_written x ts old) }

  pub private_none : (old : List ChangedEntry) (o : Option Token) → IsKey env x ts old old false (key.private x o)
  unfolding key.private
  private_none old None = record { is = tt }
  private_none old (Some t) = go (private_of x t)
    where
      go : (o : Option Ident) → IsKey env x ts old old false (option_map (λ name. (false, vExpr.PrivateName name)) o)
      go None = record { is = tt }
      go (Some id) = record { is = left_out old _ (ap (pattern_key env false) (out_PrivateName id)) }
