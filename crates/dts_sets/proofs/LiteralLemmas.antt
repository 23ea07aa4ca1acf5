-- What is an array literal, by what was read of its parts.
use Rattle.std.specs.Prelude.{ℕ, ◌+◌, Bool, true, false, List, [], ◌∷◌, Option, Some, None, option_map, if◌then◌else◌}
use Rattle.std.proofs.Common.{◌≡◌, refl, sym, subst, ◌∙◌}
use Rattle.base.specs.declared.range.Range.{Range}
use Rattle.es_token.specs.declared.token.Token.{Token}
use Rattle.es_token.specs.declared.token.TokenKind.{TokenKind}
use Rattle.es_token.specs.declared.token.TokenKind.TheVariants as k
use Rattle.grammar_theory.specs.Key.{same_kind}
use Rattle.es_grammar.specs.declared.rows.NodeKind.{NodeKind}
use Rattle.es_grammar.specs.declared.rows.NodeKind.TheVariants as l
use Rattle.es_ast.specs.declared.ts.ts.TsPart.TheVariants as vPart
use Rattle.es_ast.specs.declared.ts.ts.TsType.{TsType}
use Rattle.es_ast.specs.declared.ast.Expr.{Expr}
use Rattle.es_ast.specs.declared.ast.Expr.TheVariants as vExpr
use Rattle.es_lowering.specs.Value.{Value, absent, nil, more, token, node, part, as_group, group, given, expr_at, first_of, behind}
use Rattle.es_lowering.specs.Texts.{span_of, token_at}
use Rattle.es_lowering.specs.Operators.{binary_between}
use Rattle.es_lowering.specs.Expressions.{elements, parenthesized, array_literal}
use Rattle.es_lowering.specs.TypedExpressions.{asserted_by, type_assertion, turned_by, typed_binary}
use Rattle.es_lowering.specs.Lowering.{build, expr_of, type_of, as_target}
use Rattle.es_syntax.specs.declared.entry.Lean.{Lean}
use Rattle.es_syntax.specs.declared.entry.Lean.TheVariants as vLean
use Rattle.es_syntax.specs.declared.entry.Entry.{Entry}
use Rattle.es_syntax.specs.declared.entry.What.{What}
use Rattle.es_syntax.specs.declared.entry.What.TheVariants as vWhat
use Rattle.es_syntax.specs.declared.cursor.Item.{Item}
use Rattle.es_syntax.specs.Held.{Held, held, valued, made, node_of, leaning, leaned, leant, parts_of, label_of, token_there}
use Rattle.es_syntax.specs.Roles.{expr_in, ts_type_in}
use Rattle.es_syntax.specs.Views.{is_one_of}
use Rattle.es_syntax.proofs.Others.{in_held, in_role, in_leant}
use Rattle.es_syntax.proofs.Rows.{group_role, group_leant}
use Rattle.es_expr_spans.proofs.Given.{one, of_given, of_mapped}
use Rattle.es_expr_spans.proofs.Forms as forms
use Rattle.dts_rules.specs.Sets.{is_array_literal}
use Rattle.dts_sets.specs.Forms.{literal_labels, Literal, ArrayType, Asserted, Turned, Leaned, is_word}
use Rattle.dts_sets.proofs.LiteralForms.{literal_Array, literal_Paren, literal_Bin, literal_TsConstAssertion, literal_TsAs, literal_TsSatisfies, other_literal}

abbrev Is : Bool → Expr → Type 0
Is b e = is_array_literal e ≡ b

-- ---- after a word
module _ (ts : List Token) (r : Range) (e : Expr) (before : Bool) (known : is_array_literal e ≡ before) where
  kept : (v : Value) (kind : Option TokenKind) → ts_type_in v ≡ None
      → Literal before (given kind (λ kind. asserted_by r e kind v))
  kept v None none = tt
  kept (token n) (Some kind) none = literal_TsConstAssertion e r ∙ known
  kept (node from to m) (Some kind) none =
      let P : Option TsType → Type 0 = λ o.
      Literal before (option_map (λ ty. if same_kind kind k.AsWord then vExpr.TsAs e (Some (vPart.TypeAnn ty)) r
      else vExpr.TsSatisfies e (Some (vPart.TypeAnn ty)) r) o) in
      subst P (sym none) tt
  kept absent (Some kind) none = tt
  kept nil (Some kind) none = tt
  kept (more v vs) (Some kind) none = tt

  pub const_turn : (n : ℕ) (kind : Option TokenKind)
      → Literal before (given kind (λ kind. asserted_by r e kind (token n)))
  const_turn n kind = kept (token n) kind refl

  asserted : (w : Bool) (ty : Option TsType) (b : Bool) → (w ≡ true → ArrayType b ty) → (w ≡ false → before ≡ b)
      → Literal b (option_map (λ ty. if w then vExpr.TsAs e (Some (vPart.TypeAnn ty)) r
      else vExpr.TsSatisfies e (Some (vPart.TypeAnn ty)) r) ty)
  asserted w None b as_ satisfies = tt
  asserted true (Some ty) b as_ satisfies = literal_TsAs e (Some (vPart.TypeAnn ty)) r ∙ as_ refl
  asserted false (Some ty) b as_ satisfies = literal_TsSatisfies e (Some (vPart.TypeAnn ty)) r ∙ known ∙ satisfies refl

  -- what a node is after this token
  after_token : (o : Option Token) (ty : Option TsType) (b : Bool) → (is_word k.AsWord o ≡ true → ArrayType b ty)
      → (is_word k.AsWord o ≡ false → before ≡ b)
      → Literal b (given (option_map (λ t. t.kind) o) (λ kind. option_map (λ ty.
      if same_kind kind k.AsWord then vExpr.TsAs e (Some (vPart.TypeAnn ty)) r
      else vExpr.TsSatisfies e (Some (vPart.TypeAnn ty)) r) ty))
  after_token None ty b as_ satisfies = tt
  after_token (Some t) ty b as_ satisfies = asserted (same_kind t.kind k.AsWord) ty b as_ satisfies

  pub as_turn : (x : List ℕ) (label : NodeKind) (from to : ℕ) (p : Value) (o : Option ℕ) (b : Bool)
      → true ≡ is_word k.AsWord (token_there ts o) → ArrayType b (ts_type_in (node_of x ts label from to p))
      → Literal b (given (option_map (λ t. t.kind) (token_there ts o))
      (λ kind. asserted_by r e kind (node_of x ts label from to p)))
  as_turn x label from to p o b is type =
      after_token (token_there ts o) (ts_type_in (node_of x ts label from to p)) b (λ w. type)
      (λ w. absurd (different (is ∙ w)))
    where
      different : true ≡ false → ⊥
      different e = cc

  pub satisfies_turn : (x : List ℕ) (label : NodeKind) (from to : ℕ) (p : Value) (o : Option ℕ)
      → false ≡ is_word k.AsWord (token_there ts o)
      → Literal before (given (option_map (λ t. t.kind) (token_there ts o))
      (λ kind. asserted_by r e kind (node_of x ts label from to p)))
  satisfies_turn x label from to p o is =
      after_token (token_there ts o) (ts_type_in (node_of x ts label from to p)) before
      (λ w. absurd (different (is ∙ w))) (λ w. refl)
    where
      different : false ≡ true → ⊥
      different e = cc

  pub role_turn : (x : List ℕ) (v : Value) (kind : Option TokenKind)
      → Literal before (given kind (λ kind. asserted_by r e kind (as_target x ts v)))
  role_turn x v kind = kept (as_target x ts v) kind (in_role x ts (λ m. m.ts_type) (λ e. refl) v)

  pub parts_turn : (x : List ℕ) (es : List Entry) (kind : Option TokenKind)
      → Literal before (given kind (λ kind. asserted_by r e kind (held x ts es)))
  parts_turn x es kind = kept (held x ts es) kind (in_held x ts (λ m. m.ts_type) es)

  leaning_type : (x : List ℕ) (lean : Lean) (from : ℕ) (r : Range) (p : Value)
      → (build x ts (label_of lean) from r p).ts_type ≡ None
  unfolding build type_of
  leaning_type x vLean.Binary from r p = refl
  leaning_type x vLean.TypedBinary from r p = refl

  pub lean_turn : (x : List ℕ) (lean : Lean) (from : ℕ) (es : List Entry) (kind : Option TokenKind)
      → Literal before (given kind (λ kind. asserted_by r e kind (leant x ts lean from (parts_of x ts es))))
  lean_turn x lean from es kind =
      kept (leant x ts lean from (parts_of x ts es)) kind
      (in_leant x ts (λ m. m.ts_type) (leaning_type x) lean from (parts_of x ts es))

  -- the same before it, as after `as`
  pub type_before : (x : List ℕ) (label : NodeKind) (from to : ℕ) (p : Value) (b : Bool)
      → ArrayType b (ts_type_in (node_of x ts label from to p))
      → Literal b (asserted_by r e k.AsWord (node_of x ts label from to p))
  type_before x label from to p b type =
      asserted true (ts_type_in (node_of x ts label from to p)) b (λ w. type) (λ w. absurd (different w))
    where
      different : true ≡ false → ⊥
      different e = cc

  pub role_before : (x : List ℕ) (v : Value) → Literal before (asserted_by r e k.AsWord (as_target x ts v))
  role_before x v = role_turn x v (Some k.AsWord)

-- at a place of a row
module _ (x : List ℕ) (ts : List Token) (i : Item) (r : Range) (e : Expr) (kind : Option TokenKind) (b : Bool) where
  pub at_place : (w : What) → i.what ≡ w
      → Literal b (given kind (λ kind. asserted_by r e kind (made x ts w i.from i.to (held x ts i.parts.entries.now)
      (parts_of x ts i.parts.entries.now))))
      → Literal b (given kind (λ kind. asserted_by r e kind (valued x ts i)))
  at_place w is known =
      let P : What → Type 0 = λ w.
      Literal b (given kind (λ kind. asserted_by r e kind (made x ts w i.from i.to (held x ts i.parts.entries.now)
      (parts_of x ts i.parts.entries.now)))) in
      subst P (sym is) known

pub type_at_place : (x : List ℕ) (ts : List Token) (i : Item) (w : What) (b : Bool) → i.what ≡ w
    → ArrayType b (ts_type_in (valued x ts i))
    → ArrayType b (ts_type_in
    (made x ts w i.from i.to (held x ts i.parts.entries.now) (parts_of x ts i.parts.entries.now)))
type_at_place x ts i w b is known =
    let P : What → Type 0 = λ w.
    ArrayType b (ts_type_in
    (made x ts w i.from i.to (held x ts i.parts.entries.now) (parts_of x ts i.parts.entries.now))) in
    subst P is known

pub group_at_place : (x : List ℕ) (ts : List Token) (i : Item) (v : Value) → i.what ≡ vWhat.Parts
    → held x ts i.parts.entries.now ≡ v → valued x ts i ≡ v
group_at_place x ts i v is known =
    let P : What → Type 0 = λ w.
    made x ts w i.from i.to (held x ts i.parts.entries.now) (parts_of x ts i.parts.entries.now) ≡ v in
    subst P (sym is) known

-- ---- a turn
module _ (ts : List Token) (before : Bool) (g : Value) where
  bin : (r : Range) (from : ℕ) (e : Expr) (v : Value)
      → Literal false (given (binary_between ts from (first_of v))
      (λ op. given (expr_at g 1) (λ right. Some (vExpr.Bin op e right r))))
  bin r from e v =
      (of_given (Is false) (binary_between ts from (first_of v)) (λ op.
      of_given (Is false) (expr_at g 1) (λ right. one (Is false) (literal_Bin op e right r)))).is

  plain : (v : Value) → as_group v ≡ nil → (r : Range) (from : ℕ) (e : Expr) → Literal false (turned_by ts r e from g v)
  plain (more v vs) none r from e = absurd (different none)
    where
      different : more v vs ≡ nil → ⊥
      different e = cc
  plain absent none r from e = bin r from e absent
  plain nil none r from e = bin r from e nil
  plain (token n) none r from e = bin r from e (token n)
  plain (node first to m) none r from e = bin r from e (node first to m)

  pub at_right : (v : Value) (after : Bool) → part g 1 ≡ v
      → ((r : Range) (from : ℕ) (e : Expr) → is_array_literal e ≡ before → Literal after (turned_by ts r e from g v))
      → Turned ts before after g
  at_right v after is known r from e b =
      let P : Value → Type 0 = λ v. Literal after (turned_by ts r e from g v) in subst P (sym is) (known r from e b)

  pub no_right : part g 1 ≡ absent → Turned ts before false g
  no_right is = at_right absent false is (λ r from e b. plain absent refl r from e)

  pub leaf_right : (n : ℕ) → part g 1 ≡ token n → Turned ts before false g
  leaf_right n is = at_right (token n) false is (λ r from e b. plain (token n) refl r from e)

  pub node_right : (x : List ℕ) (label : NodeKind) (from to : ℕ) (p : Value) → part g 1 ≡ node_of x ts label from to p
      → Turned ts before false g
  node_right x label from to p is =
      at_right _ false is (λ r start e b. plain (node_of x ts label from to p) refl r start e)

  pub role_right : (x : List ℕ) (v : Value) → part g 1 ≡ as_target x ts v → Turned ts before false g
  role_right x v is = at_right _ false is (λ r from e b. plain (as_target x ts v) (group_role x ts v) r from e)

  pub lean_right : (x : List ℕ) (lean : Lean) (from : ℕ) (es : List Entry)
      → part g 1 ≡ leant x ts lean from (parts_of x ts es)
      → Turned ts before false g
  lean_right x lean from es is =
      at_right _ false is (λ r start e b. plain (leant x ts lean from (parts_of x ts es))
      (group_leant x ts lean from (parts_of x ts es)) r start e)

  pub empty_right : (v : Value) → part g 1 ≡ v → v ≡ nil → Turned ts before false g
  empty_right v is none =
      at_right nil false (is ∙ none) (λ r from e b. plain nil refl r from e)

  pub group_right : (w v vs : Value) (o : Option ℕ) (after : Bool) → part g 1 ≡ w → w ≡ more v vs
      → token_at ts g 0 ≡ token_there ts o
      → ((r : Range) (e : Expr) → is_array_literal e ≡ before
      → Literal after (given (option_map (λ t. t.kind) (token_there ts o)) (λ kind. asserted_by r e kind v)))
      → Turned ts before after g
  group_right w v vs o after is more_ there known =
      at_right (more v vs) after (is ∙ more_) (λ r from e b.
      let P : Option Token → Type 0 =
      λ t. Literal after (given (option_map (λ t. t.kind) t) (λ kind. asserted_by r e kind v)) in
      subst P (sym there) (known r e b))

-- ---- what is before it, in angle brackets
module _ (before : Bool) (g : Value) where
  pub there_before : (v : Value) (after : Bool) → part g 0 ≡ v → Asserted before after v
      → Asserted before after (part g 0)
  there_before v after is known = subst (Asserted before after) (sym is) known

  pub none_before : part g 0 ≡ absent → Asserted before false (part g 0)
  none_before is = subst (Asserted before false) (sym is) (λ r e known. tt)

-- ---- turns of a chain
module _ (x : List ℕ) (ts : List Token) where
  turned_binary : (r : Range) (p g v : Value) (before after : Bool) → part p 0 ≡ v → g ≡ group p 1
      → Literal before (expr_in v)
      → Turned ts before after g → Literal after (typed_binary ts r p)
  unfolding typed_binary
  turned_binary r p g v before after is same left turn = go (part p 0) is (group p 1) (sym same)
    where
      step : (o : Option Expr) (h : Value) → h ≡ g → Literal before o → (from : ℕ)
          → Literal after (given o (λ left. turned_by ts r left from h (part h 1)))
      step None h e known from = tt
      step (Some it) h e known from =
          let P : Value → Type 0 = λ h. Literal after (turned_by ts r it from h (part h 1)) in
          subst P (sym e) (turn r from it known)

      go : (w : Value) → w ≡ v → (h : Value) → h ≡ g
          → Literal after (given (expr_in w) (λ left. turned_by ts r left (behind w) h (part h 1)))
      go w e h f =
          let P : Value → Type 0 = λ w. Literal before (expr_in w) in
          step (expr_in w) h f (subst P (sym e) left) (behind w)

  pub leaning_turn : (from to : ℕ) (v turn g : Value) (before after : Bool) → g ≡ group (as_group turn) 0
      → Literal before (expr_in v) → Turned ts before after g
      → Literal after (expr_in (leaning x ts vLean.TypedBinary from v (to, turn)))
  unfolding build expr_of
  leaning_turn from to v turn g before after e left known =
      turned_binary (span_of ts from to) (more v (as_group turn)) g v before after refl e left known

  pub leaned_none : (ps : List Held) (b : Bool) → ps ≡ [] → Leaned x ts b b ps
  unfolding leaned
  leaned_none ps b e =
      let P : List Held → Type 0 = λ ps. Leaned x ts b b ps in subst P (sym e) (λ from v known. known)

  pub leaned_next : (all ps : List Held) (to : ℕ) (turn : Value) (before mid after : Bool) → all ≡ (to, turn) ∷ ps
      → ((from to : ℕ) (v : Value) → Literal before (expr_in v)
      → Literal mid (expr_in (leaning x ts vLean.TypedBinary from v (to, turn))))
      → Leaned x ts mid after ps → Leaned x ts before after all
  unfolding leaned
  leaned_next all ps to turn before mid after e step rest =
      let P : List Held → Type 0 = λ ps. Leaned x ts before after ps in
      subst P (sym e) (λ from v known.
      rest from (leaning x ts vLean.TypedBinary from v (to, turn)) (step from to v known))

  -- ---- all of a chain
  bins : (from : ℕ) (v : Value) (ps : List Held) → Literal false (expr_in v)
      → Literal false (expr_in (leaned x ts vLean.Binary from v ps))
  unfolding leaned build expr_of
  bins from v [] known = known
  bins from v (p ∷ ps) known =
      bins from (leaning x ts vLean.Binary from v p) ps
      (forms.binary (Is false) x ts (span_of ts from p.0)
      (λ op left right. literal_Bin op left right (span_of ts from p.0)) (more v (as_group p.1))).is

  pub binary_lean : (from : ℕ) (ps : List Held) → Literal false (expr_in (leant x ts vLean.Binary from ps))
  unfolding build expr_of
  binary_lean from [] = tt
  binary_lean from (p ∷ []) = tt
  binary_lean from (p ∷ q ∷ ps) =
      bins from (leaning x ts vLean.Binary from p.1 q) ps
      (forms.binary (Is false) x ts (span_of ts from q.0)
      (λ op left right. literal_Bin op left right (span_of ts from q.0)) (more p.1 (as_group q.1))).is

  pub no_first : (lean : Lean) (from : ℕ) (ps : List Held) (b : Bool) → ps ≡ []
      → Literal b (expr_in (leant x ts lean from ps))
  no_first lean from ps b e =
      let P : List Held → Type 0 = λ ps. Literal b (expr_in (leant x ts lean from ps)) in subst P (sym e) tt

  pub typed_lean : (from to : ℕ) (all ps : List Held) (v : Value) (before after : Bool) → all ≡ (to, v) ∷ ps
      → Literal before (expr_in v) → Leaned x ts before after ps
      → Literal after (expr_in (leant x ts vLean.TypedBinary from all))
  unfolding leaned
  typed_lean from to all ps v before after e known turns =
      let P : List Held → Type 0 = λ ps. Literal after (expr_in (leant x ts vLean.TypedBinary from ps)) in
      subst P (sym e) (go ps turns)
    where
      go : (ps : List Held) → Leaned x ts before after ps
          → Literal after (expr_in (leant x ts vLean.TypedBinary from ((to, v) ∷ ps)))
      go [] turns = tt
      go (q ∷ ps) turns = turns from v known

  -- ---- by alternatives
  pub array : (from : ℕ) (r : Range) (p : Value) → Literal true (expr_of x ts l.ArrayLiteral from r p)
  unfolding expr_of array_literal
  array from r p =
      (of_mapped (Is true) (elements vExpr.Hole expr_at ts (from + 1) (group p 0)) (λ elems. literal_Array elems r)).is

  pub paren : (from : ℕ) (r : Range) (p v : Value) (b : Bool) → part p 0 ≡ v → Literal b (expr_in v)
      → Literal b (expr_of x ts l.Parenthesized from r p)
  unfolding expr_of parenthesized
  paren from r p v b e known =
      let P : Value → Type 0 = λ v. Literal b (expr_in v) in go (expr_in (part p 0)) (subst P (sym e) known)
    where
      go : (o : Option Expr) → Literal b o → Literal b (option_map (λ e. vExpr.Paren e r) o)
      go None known = tt
      go (Some it) known = literal_Paren it r ∙ known

  pub no_inner : (from : ℕ) (r : Range) (p : Value) (b : Bool) → part p 0 ≡ absent
      → Literal b (expr_of x ts l.Parenthesized from r p)
  unfolding expr_of
  no_inner from r p b e = paren from r p absent b e tt

  pub typed_node : (from : ℕ) (r : Range) (p g v : Value) (before after : Bool) → part p 0 ≡ v → g ≡ group p 1
      → Literal before (expr_in v) → Turned ts before after g → Literal after (expr_of x ts l.TypedBinary from r p)
  unfolding expr_of
  typed_node from r p g v before after e same left turn = turned_binary r p g v before after e same left turn

  pub no_operand : (from : ℕ) (r : Range) (p : Value) (b : Bool) → part p 0 ≡ absent
      → Literal b (expr_of x ts l.TypedBinary from r p)
  unfolding expr_of typed_binary
  no_operand from r p b e =
      let P : Value → Type 0 =
      λ w. Literal b (given (expr_in w)
      (λ left. turned_by ts r left (behind w) (group p 1) (part (group p 1) 1))) in
      subst P (sym e) tt

  pub asserted_node : (from : ℕ) (r : Range) (p g v : Value) (before after : Bool) → part p 1 ≡ v → g ≡ group p 0
      → Literal before (expr_in v) → Asserted before after (part g 0)
      → Literal after (expr_of x ts l.TypeAssertion from r p)
  unfolding expr_of type_assertion
  asserted_node from r p g v before after e same arg type =
      let P : Value → Type 0 = λ v. Literal before (expr_in v) in
      let Q : Value → Type 0 = λ g. Asserted before after (part g 0) in
      go (expr_in (part p 1)) (subst P (sym e) arg) (subst Q same type)
    where
      go : (o : Option Expr) → Literal before o → Asserted before after (part (group p 0) 0)
          → Literal after (given o (λ e. asserted_by r e k.AsWord (part (group p 0) 0)))
      go None arg type = tt
      go (Some it) arg type = type r it arg

  pub no_asserted : (from : ℕ) (r : Range) (p : Value) (b : Bool) → part p 1 ≡ absent
      → Literal b (expr_of x ts l.TypeAssertion from r p)
  unfolding expr_of type_assertion
  no_asserted from r p b e =
      let P : Value → Type 0 =
      λ w. Literal b (given (expr_in w) (λ e. asserted_by r e k.AsWord (part (group p 0) 0))) in
      subst P (sym e) tt

  pub own : (label : NodeKind) (from to : ℕ) (p : Value) (b : Bool) → is_one_of literal_labels label ≡ true
      → (is_one_of literal_labels label ≡ true → (from : ℕ) (r : Range) → Literal b (expr_of x ts label from r p))
      → Literal b (expr_in (node_of x ts label from to p))
  unfolding build
  own label from to p b e known = known e from (span_of ts from to)

  pub other : (label : NodeKind) (from to : ℕ) (es : List Entry) → is_one_of literal_labels label ≡ false
      → Literal false (expr_in (node_of x ts label from to (held x ts es)))
  unfolding build
  other label from to es e = other_literal x ts label from (span_of ts from to) es e

  none : (b : Bool) (o : Option Expr) → o ≡ None → Literal b o
  none b o e = let P : Option Expr → Type 0 = λ o. Literal b o in subst P (sym e) tt

  pub role : (v : Value) (b : Bool) → Literal b (expr_in (as_target x ts v))
  role v b = none b _ (in_role x ts (λ m. m.expr) (λ e. refl) v)

  pub row : (es : List Entry) (b : Bool) → Literal b (expr_in (held x ts es))
  row es b = none b _ (in_held x ts (λ m. m.expr) es)
