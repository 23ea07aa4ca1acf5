-- What written nodes are, from their parts.
use Rattle.std.specs.Prelude.{ℕ, ◌+◌, List, [], ◌∷◌, Option, Some, None, option_map, slice_get}
use Rattle.std.proofs.Common.{◌≡◌, refl}
use Rattle.es_token.specs.declared.token.Token.{Token}
use Rattle.es_grammar.specs.declared.rows.NodeKind.TheVariants as l
use Rattle.es_ast.specs.declared.ts.leaf.TsKey.TheVariants as vKey
use Rattle.es_ast.specs.declared.ts.ts.TsParamPat.TheVariants as vTsPat
use Rattle.es_ast.specs.declared.ts.ts.TsPatProp.TheVariants as vTsProp
use Rattle.es_lowering.specs.Value.{Value, token, given, as_group, turns, type_pat_at, type_prop_at}
use Rattle.es_lowering.specs.Texts.{span_of, ident_of, str_of}
use Rattle.es_lowering.specs.TypeTexts.{number_of}
use Rattle.es_lowering.specs.Expressions.{elements}
use Rattle.es_lowering.specs.TypePatterns as type_pats
use Rattle.es_lowering.specs.Lowering.{packed, build, type_key_of, type_pat_of, type_name_of, type_prop_of}
use Rattle.es_syntax.specs.Held.{node_of}
use Rattle.es_syntax.specs.Roles.{type_key_in, type_pat_in, type_name_in, type_prop_in}

module _ (x : List ℕ) (ts : List Token) where
  -- ---- keys
  pub word_key_is : (from to at : ℕ) → type_key_in (node_of x ts l.WordKeyOfType from to (packed (token at ∷ [])))
      ≡ option_map vKey.Ident (option_map (ident_of x) (slice_get ts at))
  unfolding build type_key_of type_pats.word_key
  word_key_is from to at = refl

  pub str_key_is : (from to at : ℕ) → type_key_in (node_of x ts l.StrKeyOfType from to (packed (token at ∷ [])))
      ≡ option_map vKey.Str (option_map (str_of x) (slice_get ts at))
  unfolding build type_key_of type_pats.str_key
  str_key_is from to at = refl

  pub number_key_is : (from to at : ℕ) → type_key_in (node_of x ts l.NumberKeyOfType from to (packed (token at ∷ [])))
      ≡ option_map vKey.Num (option_map (number_of x) (slice_get ts at))
  unfolding build type_key_of type_pats.number_key
  number_key_is from to at = refl

  -- ---- patterns
  pub name_is : (from to at : ℕ) → type_pat_in (node_of x ts l.NamePatternOfType from to (packed (token at ∷ [])))
      ≡ option_map vTsPat.Ident (option_map (ident_of x) (slice_get ts at))
  unfolding build type_pat_of type_pats.name_pattern
  name_is from to at = refl

  pub own_name_is : (from to at : ℕ) → type_name_in (node_of x ts l.NamePatternOfType from to (packed (token at ∷ [])))
      ≡ option_map (ident_of x) (slice_get ts at)
  unfolding build type_name_of
  own_name_is from to at = refl

  pub array_is : (from to : ℕ) (v : Value)
      → type_pat_in (node_of x ts l.ArrayPatternOfType from to (packed (v ∷ [])))
      ≡ option_map (λ elems. vTsPat.Array elems (span_of ts from to))
      (elements vTsPat.Hole type_pat_at ts (from + 1) (as_group v))
  unfolding build type_pat_of type_pats.array_pattern
  array_is from to v = refl

  pub array_unnamed : (from to : ℕ) (p : Value) → type_name_in (node_of x ts l.ArrayPatternOfType from to p) ≡ None
  unfolding build type_name_of
  array_unnamed from to p = refl

  pub object_is : (from to : ℕ) (v : Value)
      → type_pat_in (node_of x ts l.ObjectPatternOfType from to (packed (v ∷ [])))
      ≡ option_map (λ props. vTsPat.Object props (span_of ts from to))
      (turns (λ turn. type_prop_at turn 0) (as_group v))
  unfolding build type_pat_of type_pats.object_pattern
  object_is from to v = refl

  pub object_unnamed : (from to : ℕ) (p : Value) → type_name_in (node_of x ts l.ObjectPatternOfType from to p) ≡ None
  unfolding build type_name_of
  object_unnamed from to p = refl

  pub rest_is : (from to : ℕ) (v : Value) → type_pat_in (node_of x ts l.RestPatternOfType from to (packed (v ∷ [])))
      ≡ option_map (λ arg. vTsPat.Rest arg (span_of ts from to)) (type_pat_in v)
  unfolding build type_pat_of type_pats.rest_pattern
  rest_is from to v = refl

  -- ---- properties
  pub rest_prop_is : (from to : ℕ) (v : Value)
      → type_prop_in (node_of x ts l.RestPropertyOfType from to (packed (v ∷ [])))
      ≡ option_map (λ arg. vTsProp.Rest arg (span_of ts from to)) (type_pat_in v)
  unfolding build type_prop_of type_pats.rest_property
  rest_prop_is from to v = refl

  pub key_prop_is : (from to : ℕ) (k v : Value)
      → type_prop_in (node_of x ts l.KeyProperty from to (packed (k ∷ v ∷ [])))
      ≡ given (type_key_in k)
      (λ key. given (type_pat_in v) (λ value. Some (vTsProp.KeyValue key value (span_of ts from to))))
  unfolding build type_prop_of type_pats.key_property
  key_prop_is from to k v = refl

  pub name_prop_is : (from to at : ℕ)
      → type_prop_in (node_of x ts l.NamePropertyOfType from to (packed (token at ∷ [])))
      ≡ option_map vTsProp.Shorthand (option_map (ident_of x) (slice_get ts at))
  unfolding build type_prop_of type_pats.name_property
  name_prop_is from to at = refl
