-- What types of each alternative are, by what was read of them.
use Rattle.std.specs.Prelude.{ℕ, Bool, true, false, ◌&&◌, ◌||◌, not, List, [], ◌∷◌, Option, Some, None, option_map, if◌then◌else◌, IfSome, bytes_eq, codes, slice_get}
use Rattle.std.proofs.Common.{◌≡◌, refl, sym, ap, subst, ◌∙◌}
use denote.Enum.Bare.{same_true}
use Rattle.base.specs.declared.range.Range.{Range}
use Rattle.es_token.specs.declared.token.Token.{Token}
use Rattle.es_token.specs.contracts.token.TokenKind.{the_type}
use Rattle.es_token.specs.declared.token.TokenKind.{TokenKind}
use Rattle.es_token.specs.declared.token.TokenKind.TheVariants as k
use Rattle.grammar_theory.specs.Key.{same_kind}
use Rattle.es_grammar.specs.declared.rows.NodeKind.{NodeKind}
use Rattle.es_grammar.specs.declared.rows.NodeKind.TheVariants as l
use Rattle.es_ast.specs.declared.ts.leaf.Ident.{Ident}
use Rattle.es_ast.specs.declared.ts.leaf.TsEntityName.{TsEntityName}
use Rattle.es_ast.specs.declared.ts.leaf.TsThisTypeOrIdent.{TsThisTypeOrIdent}
use Rattle.es_ast.specs.declared.ts.leaf.TsThisTypeOrIdent.TheVariants as vThis
use Rattle.es_ast.specs.declared.ts.leaf.TsTypeOperatorOp.{TsTypeOperatorOp}
use Rattle.es_ast.specs.declared.ts.leaf.TsTypeOperatorOp.TheVariants as vOperator
use Rattle.es_ast.specs.declared.ts.ts.Nodes.{Nodes}
use Rattle.es_ast.specs.declared.ts.ts.TsType.{TsType}
use Rattle.es_ast.specs.declared.ts.ts.TsType.TheVariants as vType
use Rattle.es_lowering.specs.Value.{Value, absent, nil, more, token, node, part, as_group, group, is_there, given, optional, turns, type_at, element_at, arguments_at, behind}
use Rattle.es_lowering.specs.Texts.{span_of, end_before, ident_of, this_or_name_of, ident_at, token_at, kind_at}
use Rattle.es_lowering.specs.Modules.{entity}
use Rattle.es_lowering.specs.Operators.{listed}
use Rattle.es_lowering.specs.Types.{array_types, tuple_type, type_operator, indexed, indexes, bracket_end}
use Rattle.es_lowering.specs.TypeTexts.{type_operators}
use Rattle.es_lowering.specs.TypeNames.{reference, named}
use Rattle.es_lowering.specs.Lowering.{same_label, build, type_of, entity_of, as_target}
use Rattle.es_syntax.specs.declared.entry.Lean.{Lean}
use Rattle.es_syntax.specs.declared.entry.Lean.TheVariants as vLean
use Rattle.es_syntax.specs.declared.entry.Entry.{Entry}
use Rattle.es_syntax.specs.Held.{held, node_of, leant, parts_of, label_of, token_there}
use Rattle.es_syntax.specs.Roles.{ts_type_in, entity_in}
use Rattle.es_syntax.specs.Views.{is_one_of}
use Rattle.es_syntax.proofs.Others.{in_held, in_role, in_leant}
use Rattle.es_variables.specs.declared.ident.Ident.{Ident as Named}
use Rattle.es_variables.specs.Kept.{Names}
use Rattle.es_expr_spans.proofs.Given.{Of, one, of_mapped, of_if, none}
use Rattle.dts_rules.specs.Sets.{is_array_name, is_array_type, is_readonly}
use Rattle.dts_sets.specs.Forms.{array_labels, entity_labels, array_word, ArrayType, ArrayName, Indexes, is_word}
use Rattle.dts_sets.proofs.TypeForms.{array_Tuple, array_Array, array_IndexedAccess, array_Operator, array_Ref, other_type}

-- ---- words
pub word_is : (o : Option Token) (t : Token) (word : TokenKind) (b : Bool) → o ≡ Some t → same_kind t.kind word ≡ b
    → b ≡ is_word word o
word_is o t word b there same =
    let P : Option Token → Type 0 = λ o. b ≡ is_word word o in subst P (sym there) (sym same)

pub no_word : (o : Option Token) (word : TokenKind) → o ≡ None → false ≡ is_word word o
no_word o word none = let P : Option Token → Type 0 = λ o. false ≡ is_word word o in subst P (sym none) refl

pub array_name : (x : List ℕ) (ts : List Token) (ids : List ℕ) (at : ℕ) (it : Named) (b : Bool) → Names x ts ids at it
    → (bytes_eq it.sym.now (codes "Array") || bytes_eq it.sym.now (codes "ReadonlyArray")) ≡ b
    → IfSome (slice_get ts at) (λ t. array_word x t ≡ b)
array_name x ts ids at it b names e =
    let P : Option Token → Type 0 = λ o. IfSome o (λ t. array_word x t ≡ b) in
    let Q : List ℕ → Type 0 = λ q. (bytes_eq q (codes "Array") || bytes_eq q (codes "ReadonlyArray")) ≡ b in
    subst P (sym names.there) (subst Q names.sym e)

pub no_name : (x : List ℕ) (o : Option Token) (b : Bool) → o ≡ None → IfSome o (λ t. array_word x t ≡ b)
no_name x o b none = let P : Option Token → Type 0 = λ o. IfSome o (λ t. array_word x t ≡ b) in subst P (sym none) tt

-- ---- names with dots
module _ (x : List ℕ) (ts : List Token) (r : Range) where
  abbrev made : Option TsThisTypeOrIdent → Option (List Ident) → Option TsEntityName
  made left rest = given left (λ left. given rest (λ rest. Some (record { left = left; rest = rest; span = r })))

  long : (left : TsThisTypeOrIdent) (a : Ident) (others : List Ident) → is_array_name left (a ∷ others) ≡ false
  long (vThis.This s) a others = refl
  long (vThis.Ident id) a others = refl

  more_names : (left : Option TsThisTypeOrIdent) (g : Value) → is_there g ≡ true
      → ArrayName false (made left (turns (λ turn. ident_at x ts turn 0) g))
  more_names None g e = tt
  more_names (Some left) (more v vs) e = step (ident_at x ts (as_group v) 0) (turns (λ turn. ident_at x ts turn 0) vs)
    where
      step : (a : Option Ident) (others : Option (List Ident))
          → ArrayName false (made (Some left) (given a (λ a. given others (λ others. Some (a ∷ others)))))
      step None others = tt
      step (Some a) None = tt
      step (Some a) (Some others) = long left a others
  more_names (Some left) nil e = let bad : ⊥ = cc in absurd bad
  more_names (Some left) absent e = let bad : ⊥ = cc in absurd bad
  more_names (Some left) (token n) e = let bad : ⊥ = cc in absurd bad
  more_names (Some left) (node from to m) e = let bad : ⊥ = cc in absurd bad

  pub dotted : (p : Value) → is_there (group p 1) ≡ true → ArrayName false (entity x ts r p)
  unfolding entity
  dotted p e = more_names (option_map (this_or_name_of x) (token_at ts p 0)) (group p 1) e

  pub no_left : (p : Value) (o : Option Token) → token_at ts p 0 ≡ token_there ts None
      → ArrayName false (entity x ts r p)
  unfolding entity
  no_left p o e =
      let P : Option Token → Type 0 = λ o.
      ArrayName false (made (option_map (this_or_name_of x) o) (turns (λ turn. ident_at x ts turn 0) (group p 1))) in
      subst P (sym e) tt

  one_name : (left : TsThisTypeOrIdent) (b : Bool) (g : Value) → is_there g ≡ false → is_array_name left [] ≡ b
      → ArrayName b (made (Some left) (turns (λ turn. ident_at x ts turn 0) g))
  one_name left b (more v vs) e known = let bad : ⊥ = cc in absurd bad
  one_name left b nil e known = known
  one_name left b absent e known = known
  one_name left b (token n) e known = known
  one_name left b (node from to m) e known = known

  left_of : (o : Option Token) (b : Bool) (g : Value) → is_there g ≡ false
      → IfSome o (λ t. is_array_name (this_or_name_of x t) [] ≡ b)
      → ArrayName b (made (option_map (this_or_name_of x) o) (turns (λ turn. ident_at x ts turn 0) g))
  left_of None b g e known = tt
  left_of (Some t) b g e known = one_name (this_or_name_of x t) b g e known

  by_word : (t : Token) (w b : Bool) → same_kind t.kind k.ThisWord ≡ w → (if w then false else array_word x t) ≡ b
      → is_array_name (this_or_name_of x t) [] ≡ b
  unfolding this_or_name_of ident_of
  by_word t true b e known = rw e known
  by_word t false b e known = rw e known

  pub left_this : (p : Value) (at : ℕ) → is_there (group p 1) ≡ false → token_at ts p 0 ≡ token_there ts (Some at)
      → true ≡ is_word k.ThisWord (token_there ts (Some at)) → ArrayName false (entity x ts r p)
  unfolding entity
  left_this p at e there this =
      let P : Option Token → Type 0 = λ o.
      ArrayName false (made (option_map (this_or_name_of x) o) (turns (λ turn. ident_at x ts turn 0) (group p 1))) in
      subst P (sym there) (left_of (slice_get ts at) false (group p 1) e (go (slice_get ts at) this))
    where
      go : (o : Option Token) → true ≡ is_word k.ThisWord o
          → IfSome o (λ t. is_array_name (this_or_name_of x t) [] ≡ false)
      go None this = tt
      go (Some t) this = by_word t true false (sym this) refl

  pub left_name : (p : Value) (at : ℕ) (b : Bool) → is_there (group p 1) ≡ false
      → token_at ts p 0 ≡ token_there ts (Some at)
      → false ≡ is_word k.ThisWord (token_there ts (Some at)) → IfSome (slice_get ts at) (λ t. array_word x t ≡ b)
      → ArrayName b (entity x ts r p)
  unfolding entity
  left_name p at b e there other known =
      let P : Option Token → Type 0 = λ o.
      ArrayName b (made (option_map (this_or_name_of x) o) (turns (λ turn. ident_at x ts turn 0) (group p 1))) in
      subst P (sym there) (left_of (slice_get ts at) b (group p 1) e (go (slice_get ts at) other known))
    where
      go : (o : Option Token) → false ≡ is_word k.ThisWord o → IfSome o (λ t. array_word x t ≡ b)
          → IfSome o (λ t. is_array_name (this_or_name_of x t) [] ≡ b)
      go None other known = tt
      go (Some t) other known = by_word t false b (sym other) known

-- ---- in other places
module _ (x : List ℕ) (ts : List Token) where
  pub entity_there : (label : NodeKind) (from to : ℕ) (p : Value) (b : Bool) → is_one_of entity_labels label ≡ true
      → ((r : Range) → ArrayName b (entity x ts r p)) → ArrayName b (entity_in (node_of x ts label from to p))
  unfolding build entity_of
  entity_there label from to p b e known =
      let P : TsEntityName → Type 0 = λ name. is_array_name name.left name.rest ≡ b in
      let there : Of P (entity x ts (span_of ts from to) p) = record { is = known (span_of ts from to) } in
      (of_if P (same_label label l.Entity) there (of_if P (same_label label l.EntityOfType) there (none P))).is

  no_entity_if : (a b : Bool) (o : Option TsEntityName) (c : Bool)
      → (if a then true else (if b then true else false)) ≡ false
      → ArrayName c (if a then o else (if b then o else None))
  no_entity_if true b o c e = let bad : ⊥ = cc in absurd bad
  no_entity_if false true o c e = let bad : ⊥ = cc in absurd bad
  no_entity_if false false o c e = tt

  pub no_entity : (label : NodeKind) (from to : ℕ) (p : Value) (b : Bool) → is_one_of entity_labels label ≡ false
      → ArrayName b (entity_in (node_of x ts label from to p))
  unfolding build entity_of
  no_entity label from to p b e =
      no_entity_if (same_label label l.Entity) (same_label label l.EntityOfType) (entity x ts (span_of ts from to) p) b
      e

  nothing : (b : Bool) (o : Option TsEntityName) → o ≡ None → ArrayName b o
  nothing b o e = let P : Option TsEntityName → Type 0 = λ o. ArrayName b o in subst P (sym e) tt

  pub role_entity : (v : Value) (b : Bool) → ArrayName b (entity_in (as_target x ts v))
  role_entity v b = nothing b _ (in_role x ts (λ m. m.entity) (λ e. refl) v)

  pub parts_entity : (es : List Entry) (b : Bool) → ArrayName b (entity_in (held x ts es))
  parts_entity es b = nothing b _ (in_held x ts (λ m. m.entity) es)

  leaning_entity : (lean : Lean) (from : ℕ) (r : Range) (p : Value)
      → (build x ts (label_of lean) from r p).entity ≡ None
  unfolding build entity_of
  leaning_entity vLean.Binary from r p = refl
  leaning_entity vLean.TypedBinary from r p = refl

  pub lean_entity : (lean : Lean) (from : ℕ) (es : List Entry) (b : Bool)
      → ArrayName b (entity_in (leant x ts lean from (parts_of x ts es)))
  lean_entity lean from es b = nothing b _ (in_leant x ts (λ m. m.entity) leaning_entity lean from (parts_of x ts es))

-- ---- brackets
module _ (ts : List Token) where
  with_index : (start end : ℕ) (ty : TsType) (index : Option TsType) (vs : Value) (after : Bool)
      → Indexes ts false after vs
      → ArrayType after (given (option_map Some index)
      (λ index. indexes ts start end (indexed ts start end ty index) vs))
  with_index start end ty None vs after rest = tt
  with_index start end ty (Some index) vs after rest =
      rest start end (vType.IndexedAccess ty index (record { start = start; end = end_before ts end }))
      (array_IndexedAccess ty index _)

  with_none : (start end : ℕ) (ty : TsType) (vs : Value) (after : Bool) → Indexes ts true after vs
      → ArrayType after (indexes ts start end (indexed ts start end ty None) vs)
  with_none start end ty vs after rest =
      rest start end (vType.Array ty (record { start = start; end = end_before ts end })) (array_Array ty _)

  with_group : (g : Value) (there after : Bool) (vs : Value) → is_there g ≡ there → Indexes ts (not there) after vs
      → (start end : ℕ) (ty : TsType)
      → ArrayType after (given (optional type_at g) (λ index. indexes ts start end (indexed ts start end ty index) vs))
  with_group (more v ws) true after vs e rest start end ty =
      with_index start end ty (type_at (more v ws) 0) vs after rest
  with_group (more v ws) false after vs e rest start end ty = let bad : ⊥ = cc in absurd bad
  with_group nil false after vs e rest start end ty = with_none start end ty vs after rest
  with_group nil true after vs e rest start end ty = let bad : ⊥ = cc in absurd bad
  with_group absent false after vs e rest start end ty = with_none start end ty vs after rest
  with_group absent true after vs e rest start end ty = let bad : ⊥ = cc in absurd bad
  with_group (token n) false after vs e rest start end ty = with_none start end ty vs after rest
  with_group (token n) true after vs e rest start end ty = let bad : ⊥ = cc in absurd bad
  with_group (node from to m) false after vs e rest start end ty = with_none start end ty vs after rest
  with_group (node from to m) true after vs e rest start end ty = let bad : ⊥ = cc in absurd bad

  pub indexes_none : (row : Value) (b : Bool) → row ≡ nil → Indexes ts b b row
  indexes_none row b e =
      let P : Value → Type 0 = λ row. Indexes ts b b row in subst P (sym e) (λ start at ty known. known)

  pub indexes_next : (row v vs : Value) (before there after : Bool) → row ≡ more v vs
      → is_there (group (as_group v) 0) ≡ there → Indexes ts (not there) after vs → Indexes ts before after row
  indexes_next row v vs before there after e is rest =
      let P : Value → Type 0 = λ row. Indexes ts before after row in
      subst P (sym e) (λ start at ty known.
      with_group (group (as_group v) 0) there after vs is rest start (bracket_end at (group (as_group v) 0)) ty)

  bracketed_by : (r : Range) (o : Option TsType) (p : Value) (there after : Bool) → is_there (group p 1) ≡ there
      → Indexes ts (not there) after (group p 2)
      → ArrayType after (given o (λ ty.
      given (optional type_at (group p 1)) (λ index.
      indexes ts r.start (bracket_end (behind (part p 0)) (group p 1))
      (indexed ts r.start (bracket_end (behind (part p 0)) (group p 1)) ty index) (group p 2))))
  bracketed_by r None p there after e rest = tt
  bracketed_by r (Some ty) p there after e rest =
      with_group (group p 1) there after (group p 2) e rest r.start (bracket_end (behind (part p 0)) (group p 1)) ty

  pub brackets : (r : Range) (p row : Value) (there after : Bool) → is_there (group p 1) ≡ there → row ≡ group p 2
      → Indexes ts (not there) after row → ArrayType after (array_types ts r p)
  unfolding array_types
  brackets r p row there after e g rest =
      let P : Value → Type 0 = λ row. Indexes ts (not there) after row in
      bracketed_by r (type_at p 0) p there after e (subst P g rest)

  -- ---- `readonly`
  abbrev Readonly : TokenKind → TsTypeOperatorOp → Type 0
  Readonly kind op = is_readonly op ≡ same_kind kind k.ReadonlyWord

  of_word : (kind word : TokenKind) (op : TsTypeOperatorOp) {rest : Option TsTypeOperatorOp} → Readonly word op
      → Of (Readonly kind) rest → Of (Readonly kind) (if same_kind kind word then Some op else rest)
  of_word kind word op {rest} is known = go (same_kind kind word) refl
    where
      go : (c : Bool) → same_kind kind word ≡ c → Of (Readonly kind) (if c then Some op else rest)
      go true e =
          let R : TokenKind → Type 0 = λ kind. Readonly kind op in
          one (Readonly kind) (subst R (sym (same_true the_type tt kind word e)) is)
      go false e = known

  operator_of : (kind : TokenKind) → Of (Readonly kind) (listed type_operators kind)
  unfolding type_operators
  operator_of kind =
      of_word kind k.KeyofWord vOperator.KeyOf refl
      (of_word kind k.UniqueWord vOperator.Unique refl
      (of_word kind k.ReadonlyWord vOperator.ReadOnly refl (none (Readonly kind))))

  operated : (r : Range) (op : Option TsTypeOperatorOp) (ty : Option TsType) (w inner : Bool)
      → IfSome op (λ op. is_readonly op ≡ w) → ArrayType inner ty
      → ArrayType (w && inner) (given op (λ op. given ty (λ ty. Some (vType.Operator op ty r))))
  operated r None ty w inner a b = tt
  operated r (Some op) None w inner a b = tt
  operated r (Some op) (Some ty) w inner a b =
      array_Operator op ty r ∙ ap (λ c. c && is_array_type ty) a ∙ ap (λ c. w && c) b

  of_token : (o : Option Token) (w : Bool) → w ≡ is_word k.ReadonlyWord o
      → IfSome (given (option_map (λ t. t.kind) o) (listed type_operators)) (λ op. is_readonly op ≡ w)
  of_token None w e = tt
  of_token (Some t) w e =
      let P : Bool → Type 0 = λ w. IfSome (listed type_operators t.kind) (λ op. is_readonly op ≡ w) in
      subst P (sym e) (operator_of t.kind).is

  pub operator_type : (r : Range) (p v : Value) (o : Option ℕ) (w inner : Bool) → part p 1 ≡ v
      → token_at ts p 0 ≡ token_there ts o → w ≡ is_word k.ReadonlyWord (token_there ts o)
      → ArrayType inner (ts_type_in v)
      → ArrayType (w && inner) (type_operator ts r p)
  unfolding type_operator
  operator_type r p v o w inner e there is known =
      let P : Value → Type 0 = λ v. ArrayType inner (ts_type_in v) in
      let Q : Option Token → Type 0 = λ o. w ≡ is_word k.ReadonlyWord o in
      operated r (given (kind_at ts p 0) (listed type_operators)) (type_at p 1) w inner
      (of_token (token_at ts p 0) w (subst Q (sym there) is)) (subst P (sym e) known)

  -- behind `readonly`, and behind another word
  pub readonly_type : (r : Range) (p v : Value) (o : Option ℕ) (w inner : Bool) → part p 1 ≡ v
      → token_at ts p 0 ≡ token_there ts o → w ≡ is_word k.ReadonlyWord (token_there ts o) → w ≡ true
      → ArrayType inner (ts_type_in v) → ArrayType inner (type_operator ts r p)
  readonly_type r p v o w inner e there is this known = operator_type r p v o true inner e there (sym this ∙ is) known

  pub other_operator : (r : Range) (p v : Value) (o : Option ℕ) (w inner : Bool) → part p 1 ≡ v
      → token_at ts p 0 ≡ token_there ts o → w ≡ is_word k.ReadonlyWord (token_there ts o) → w ≡ false
      → ArrayType inner (ts_type_in v) → ArrayType false (type_operator ts r p)
  other_operator r p v o w inner e there is this known =
      operator_type r p v o false inner e there (sym this ∙ is) known

  pub no_operand : (r : Range) (p : Value) (b : Bool) → part p 1 ≡ absent → ArrayType b (type_operator ts r p)
  unfolding type_operator
  no_operand r p b e = go (given (kind_at ts p 0) (listed type_operators)) (part p 1) e
    where
      go : (op : Option TsTypeOperatorOp) (v : Value) → v ≡ absent
          → ArrayType b (given op (λ op. given (ts_type_in v) (λ ty. Some (vType.Operator op ty r))))
      go None v e = tt
      go (Some op) v e =
          let P : Value → Type 0 = λ v. ArrayType b (given (ts_type_in v) (λ ty. Some (vType.Operator op ty r))) in
          subst P (sym e) tt

-- ---- by alternatives
module _ (x : List ℕ) (ts : List Token) (r : Range) where
  pub tuple : (p : Value) → ArrayType true (type_of x ts l.TupleType r p)
  unfolding type_of tuple_type
  tuple p =
      (of_mapped (λ ty. is_array_type ty ≡ true) (turns (λ turn. element_at turn 0) (group p 0))
      (λ elems. array_Tuple elems r)).is

  pub bracketed : (p : Value) (b : Bool) → ArrayType b (array_types ts r p)
      → ArrayType b (type_of x ts l.ArrayTypes r p)
  unfolding type_of
  bracketed p b known = known

  pub operator : (p : Value) (b : Bool) → ArrayType b (type_operator ts r p)
      → ArrayType b (type_of x ts l.TypeOperator r p)
  unfolding type_of
  operator p b known = known

  referenced_by : (name : Option TsEntityName) (args : Option (Nodes TsType)) (b : Bool) → ArrayName b name
      → ArrayType b (given name (λ name. given args (λ args. Some (vType.Ref name (Some args) r))))
  referenced_by None args b known = tt
  referenced_by (Some name) None b known = tt
  referenced_by (Some name) (Some args) b known = array_Ref name (Some args) r ∙ known

  pub referenced : (p v : Value) (b : Bool) → part p 0 ≡ v → ArrayName b (entity_in v)
      → ArrayType b (type_of x ts l.Reference r p)
  unfolding type_of reference
  referenced p v b e known =
      let P : Value → Type 0 = λ v. ArrayName b (entity_in v) in
      referenced_by (entity_in (part p 0)) (arguments_at p 1) b (subst P (sym e) known)

  pub no_reference : (p : Value) (b : Bool) → part p 0 ≡ absent → ArrayType b (type_of x ts l.Reference r p)
  unfolding type_of reference
  no_reference p b e =
      let P : Value → Type 0 = λ v. ArrayName b (entity_in v) in
      referenced_by (entity_in (part p 0)) (arguments_at p 1) b (subst P (sym e) tt)

  pub named_type : (p : Value) (b : Bool) → ((r : Range) → ArrayName b (entity x ts r p))
      → ArrayType b (type_of x ts l.EntityOfType r p)
  unfolding type_of
  named_type p b known = go (entity x ts r p) (known r)
    where
      go : (name : Option TsEntityName) → ArrayName b name → ArrayType b (option_map (named r) name)
      go None known = tt
      go (Some name) known = array_Ref name None r ∙ known

-- ---- in other places
module _ (x : List ℕ) (ts : List Token) where
  pub own : (label : NodeKind) (from to : ℕ) (p : Value) (b : Bool) → is_one_of array_labels label ≡ true
      → (is_one_of array_labels label ≡ true → (r : Range) → ArrayType b (type_of x ts label r p))
      → ArrayType b (ts_type_in (node_of x ts label from to p))
  unfolding build
  own label from to p b e known = known e (span_of ts from to)

  pub other : (label : NodeKind) (from to : ℕ) (p : Value) → is_one_of array_labels label ≡ false
      → ArrayType false (ts_type_in (node_of x ts label from to p))
  unfolding build
  other label from to p e = other_type x ts label (span_of ts from to) p e

  no_type : (b : Bool) (o : Option TsType) → o ≡ None → ArrayType b o
  no_type b o e = let P : Option TsType → Type 0 = λ o. ArrayType b o in subst P (sym e) tt

  pub role_type : (v : Value) (b : Bool) → ArrayType b (ts_type_in (as_target x ts v))
  role_type v b = no_type b _ (in_role x ts (λ m. m.ts_type) (λ e. refl) v)

  pub parts_type : (es : List Entry) (b : Bool) → ArrayType b (ts_type_in (held x ts es))
  parts_type es b = no_type b _ (in_held x ts (λ m. m.ts_type) es)

  leaning_type : (lean : Lean) (from : ℕ) (r : Range) (p : Value) → (build x ts (label_of lean) from r p).ts_type ≡ None
  unfolding build type_of
  leaning_type vLean.Binary from r p = refl
  leaning_type vLean.TypedBinary from r p = refl

  pub lean_type : (lean : Lean) (from : ℕ) (es : List Entry) (b : Bool)
      → ArrayType b (ts_type_in (leant x ts lean from (parts_of x ts es)))
  lean_type lean from es b = no_type b _ (in_leant x ts (λ m. m.ts_type) leaning_type lean from (parts_of x ts es))
