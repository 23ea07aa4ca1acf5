-- Brackets and operators after types that are frozen.
use Rattle.std.specs.Prelude.{ℕ, Bool, true, false, not, List, [], ◌∷◌, Option, Some, None, option_map, if◌then◌else◌, IfSome, slice_get}
use Rattle.std.proofs.Common.{◌≡◌, refl, sym, ap, subst, ◌∙◌}
use denote.Enum.Bare.{same_true}
use Rattle.base.specs.declared.range.Range.{Range}
use Rattle.es_token.specs.declared.token.Token.{Token}
use Rattle.es_token.specs.contracts.token.TokenKind.{the_type}
use Rattle.es_token.specs.declared.token.TokenKind.{TokenKind}
use Rattle.es_token.specs.declared.token.TokenKind.TheVariants as k
use Rattle.grammar_theory.specs.Key.{same_kind}
use Rattle.es_ast.specs.declared.ts.leaf.TsTypeOperatorOp.{TsTypeOperatorOp}
use Rattle.es_ast.specs.declared.ts.leaf.TsTypeOperatorOp.TheVariants as vOperator
use Rattle.es_ast.specs.declared.ts.ts.TsType.{TsType}
use Rattle.es_ast.specs.declared.ts.ts.TsType.TheVariants as vType
use Rattle.es_lowering.specs.Value.{Value, absent, nil, more, token, node, part, as_group, group, is_there, given, optional, type_at, behind}
use Rattle.es_lowering.specs.Texts.{end_before, token_at, kind_at}
use Rattle.es_lowering.specs.Operators.{listed}
use Rattle.es_lowering.specs.Types.{array_types, type_operator, indexed, indexes, bracket_end}
use Rattle.es_lowering.specs.TypeTexts.{type_operators}
use Rattle.es_syntax.specs.Held.{token_there}
use Rattle.es_expr_spans.proofs.Given.{Of, one, none}
use Rattle.dts_rules.specs.Sets.{is_readonly}
use Rattle.dts_rules.specs.Made.{frozen, if_true}
use Rattle.dts_draft.specs.Drafts.{is_kind}
use Rattle.dts_kept.specs.Kept.{FrozenArray, FrozenOperator, Indexes}
use Rattle.dts_kept.proofs.TypeForms.{frozen_Array, frozen_IndexedAccess, frozen_Operator}

module _ (ts : List Token) where
  with_index : (start end : ℕ) (ty : TsType) (index : Option TsType) (vs : Value) (after : Bool)
      → Indexes ts false after vs
      → FrozenArray after (given (option_map Some index)
      (λ index. indexes ts start end (indexed ts start end ty index) vs))
  with_index start end ty None vs after rest = tt
  with_index start end ty (Some index) vs after rest =
      rest start end (vType.IndexedAccess ty index (record { start = start; end = end_before ts end }))
      (frozen_IndexedAccess ty index _)

  with_none : (start end : ℕ) (ty : TsType) (vs : Value) (after : Bool) → Indexes ts true after vs
      → FrozenArray after (indexes ts start end (indexed ts start end ty None) vs)
  with_none start end ty vs after rest =
      rest start end (vType.Array ty (record { start = start; end = end_before ts end })) (frozen_Array ty _)

  with_group : (g : Value) (there after : Bool) (vs : Value) → is_there g ≡ there → Indexes ts (not there) after vs
      → (start end : ℕ) (ty : TsType)
      → FrozenArray after (given (optional type_at g)
      (λ index. indexes ts start end (indexed ts start end ty index) vs))
  with_group (more v ws) true after vs e rest start end ty =
      with_index start end ty (type_at (more v ws) 0) vs after rest
  with_group (more v ws) false after vs e rest start end ty = let bad : ⊥ = cc in absurd bad
  with_group nil false after vs e rest start end ty = with_none start end ty vs after rest
  with_group nil true after vs e rest start end ty = let bad : ⊥ = cc in absurd bad
  with_group absent false after vs e rest start end ty = with_none start end ty vs after rest
  with_group absent true after vs e rest start end ty = let bad : ⊥ = cc in absurd bad
  with_group (token n) false after vs e rest start end ty = with_none start end ty vs after rest
  with_group (token n) true after vs e rest start end ty = let bad : ⊥ = cc in absurd bad
  with_group (node from to m) false after vs e rest start end ty = with_none start end ty vs after rest
  with_group (node from to m) true after vs e rest start end ty = let bad : ⊥ = cc in absurd bad

  pub indexes_none : (row : Value) (b : Bool) → row ≡ nil → Indexes ts b b row
  indexes_none row b e =
      let P : Value → Type 0 = λ row. Indexes ts b b row in subst P (sym e) (λ start at ty known. known)

  pub indexes_next : (row v vs : Value) (before there after : Bool) → row ≡ more v vs
      → is_there (group (as_group v) 0) ≡ there → Indexes ts (not there) after vs → Indexes ts before after row
  indexes_next row v vs before there after e is rest =
      let P : Value → Type 0 = λ row. Indexes ts before after row in
      subst P (sym e) (λ start at ty known.
      with_group (group (as_group v) 0) there after vs is rest start (bracket_end at (group (as_group v) 0)) ty)

  bracketed_by : (r : Range) (o : Option TsType) (p : Value) (there after : Bool) → is_there (group p 1) ≡ there
      → Indexes ts (not there) after (group p 2)
      → FrozenArray after (given o (λ ty.
      given (optional type_at (group p 1)) (λ index.
      indexes ts r.start (bracket_end (behind (part p 0)) (group p 1))
      (indexed ts r.start (bracket_end (behind (part p 0)) (group p 1)) ty index) (group p 2))))
  bracketed_by r None p there after e rest = tt
  bracketed_by r (Some ty) p there after e rest =
      with_group (group p 1) there after (group p 2) e rest r.start (bracket_end (behind (part p 0)) (group p 1)) ty

  pub brackets : (r : Range) (p row : Value) (there after : Bool) → is_there (group p 1) ≡ there → row ≡ group p 2
      → Indexes ts (not there) after row → FrozenArray after (array_types ts r p)
  unfolding array_types
  brackets r p row there after e g rest =
      let P : Value → Type 0 = λ row. Indexes ts (not there) after row in
      bracketed_by r (type_at p 0) p there after e (subst P g rest)

  -- ---- `readonly`
  abbrev Readonly : TokenKind → TsTypeOperatorOp → Type 0
  Readonly kind op = is_readonly op ≡ same_kind kind k.ReadonlyWord

  of_word : (kind word : TokenKind) (op : TsTypeOperatorOp) {rest : Option TsTypeOperatorOp} → Readonly word op
      → Of (Readonly kind) rest → Of (Readonly kind) (if same_kind kind word then Some op else rest)
  of_word kind word op {rest} is known = go (same_kind kind word) refl
    where
      go : (c : Bool) → same_kind kind word ≡ c → Of (Readonly kind) (if c then Some op else rest)
      go true e =
          let R : TokenKind → Type 0 = λ kind. Readonly kind op in
          one (Readonly kind) (subst R (sym (same_true the_type tt kind word e)) is)
      go false e = known

  operator_of : (kind : TokenKind) → Of (Readonly kind) (listed type_operators kind)
  unfolding type_operators
  operator_of kind =
      of_word kind k.KeyofWord vOperator.KeyOf refl
      (of_word kind k.UniqueWord vOperator.Unique refl
      (of_word kind k.ReadonlyWord vOperator.ReadOnly refl (none (Readonly kind))))

  operated : (r : Range) (op : Option TsTypeOperatorOp) (ty : Option TsType) (w : Bool)
      → IfSome op (λ op. is_readonly op ≡ w)
      → FrozenOperator w (given op (λ op. given ty (λ ty. Some (vType.Operator op ty r))))
  operated r None ty w a = tt
  operated r (Some op) None w a = tt
  operated r (Some op) (Some ty) w a =
      frozen_Operator op ty r ∙ ap (λ (c : Bool). if_true c (vType.Operator op ty r)) a

  of_token : (o : Option Token) (w : Bool) → is_kind k.ReadonlyWord o ≡ w
      → IfSome (given (option_map (λ t. t.kind) o) (listed type_operators)) (λ op. is_readonly op ≡ w)
  of_token None w e = tt
  of_token (Some t) w e =
      let P : Bool → Type 0 = λ w. IfSome (listed type_operators t.kind) (λ op. is_readonly op ≡ w) in
      subst P e (operator_of t.kind).is

  pub operator_word : (r : Range) (p : Value) (at : ℕ) (w : Bool) → token_at ts p 0 ≡ token_there ts (Some at)
      → is_kind k.ReadonlyWord (slice_get ts at) ≡ w → FrozenOperator w (type_operator ts r p)
  unfolding type_operator
  operator_word r p at w there is =
      let Q : Option Token → Type 0 = λ o. is_kind k.ReadonlyWord o ≡ w in
      operated r (given (kind_at ts p 0) (listed type_operators)) (type_at p 1) w
      (of_token (token_at ts p 0) w (subst Q (sym there) is))

  pub no_word : (r : Range) (p : Value) → token_at ts p 0 ≡ token_there ts None
      → FrozenOperator false (type_operator ts r p)
  unfolding type_operator
  no_word r p there =
      let Q : Option Token → Type 0 = λ o. is_kind k.ReadonlyWord o ≡ false in
      operated r (given (kind_at ts p 0) (listed type_operators)) (type_at p 1) false
      (of_token (token_at ts p 0) false (subst Q (sym there) refl))
