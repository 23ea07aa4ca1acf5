-- What decides the type of an expression with turns behind it.
use Rattle.std.specs.Prelude.{ℕ, ◌+◌, ◌||◌, Bool, true, false, List, [], ◌∷◌, Option, Some, None, option_map, if◌then◌else◌, IfSome}
use Rattle.std.proofs.Common.{◌≡◌, refl, sym, ap, subst, ◌∙◌}
use Rattle.std.proofs.lemmas.Bool.{true≢false}
use Rattle.base.specs.declared.range.Range.{Range}
use Rattle.es_token.specs.declared.token.Token.{Token}
use Rattle.es_token.specs.declared.token.TokenKind.{TokenKind}
use Rattle.es_token.specs.declared.token.TokenKind.TheVariants as k
use Rattle.grammar_theory.specs.Key.{same_kind}
use Rattle.es_grammar.specs.declared.rows.NodeKind.{NodeKind}
use Rattle.es_ast.specs.declared.ts.ts.TsPart.{TsPart}
use Rattle.es_ast.specs.declared.ts.ts.TsPart.TheVariants as vPart
use Rattle.es_ast.specs.declared.ts.ts.TsType.{TsType}
use Rattle.es_ast.specs.declared.leaf.BinaryOp.{BinaryOp}
use Rattle.es_ast.specs.declared.ast.Expr.{Expr}
use Rattle.es_ast.specs.declared.ast.Expr.TheVariants as vExpr
use Rattle.es_ast.specs.declared.ast.ClassMember.TheOpen.{Expr-F}
use Rattle.es_lowering.specs.Value.{Value, absent, nil, more, token, node, part, as_group, group, given, expr_at, first_of, behind}
use Rattle.es_lowering.specs.Texts.{span_of, token_at}
use Rattle.es_lowering.specs.Operators.{binary_between}
use Rattle.es_lowering.specs.TypedExpressions.{asserted_by, turned_by, typed_binary}
use Rattle.es_lowering.specs.Lowering.{build, expr_of}
use Rattle.es_syntax.specs.declared.entry.Lean.{Lean}
use Rattle.es_syntax.specs.declared.entry.Lean.TheVariants as vLean
use Rattle.es_syntax.specs.declared.entry.Entry.{Entry}
use Rattle.es_syntax.specs.declared.entry.What.{What}
use Rattle.es_syntax.specs.declared.entry.What.TheVariants as vWhat
use Rattle.es_syntax.specs.declared.cursor.Item.{Item}
use Rattle.es_syntax.specs.Held.{Held, held, valued, made, node_of, leaning, leaned, leant, parts_of, token_there}
use Rattle.es_syntax.specs.Roles.{expr_in, ts_type_in}
use Rattle.es_syntax.proofs.Rows.{group_leant}
use Rattle.es_expr_spans.proofs.Forms as forms
use Rattle.es_view_expressions.specs.operator.Operator as operator
use Rattle.dts_rules.specs.Rules as rules
use Rattle.dts_rules.specs.Rules.{Env, Shown, State}
use Rattle.dts_rules.specs.Programs.{shown_expr}
use Rattle.dts_draft.specs.Written.{IfThere}
use Rattle.dts_leaves.proofs.Shown.{shown_by}
use Rattle.dts_operands.specs.declared.sources.Source.{Source}
use Rattle.dts_operands.specs.declared.sources.Source.TheVariants as source
use Rattle.dts_operands.specs.Sources.{const_of, is_word_as, HasIt, Decides, Turned, Leaned}

module _ (env : Env) (x : List ℕ) (ts : List Token) where
  -- ---- each form
  const_rule : (e : Expr) (span : Range) (c r : Bool) (s : State)
      → (shown_expr env (vExpr.TsConstAssertion e span)).rule c r s ≡ (shown_expr env e).rule true true s
  const_rule e span c r s =
      ap (λ (k : Shown). k.rule c r s)
      (shown_by env _ (Expr-F.TsConstAssertion e span) (vExpr.rolls-TsConstAssertion e span))

  as_rule : (e : Expr) (ty : TsType) (span : Range) (c r : Bool) (s : State)
      → (shown_expr env (vExpr.TsAs e (Some (vPart.TypeAnn ty)) span)).rule c r s ≡ (Some ty, s)
  as_rule e ty span c r s =
      ap (λ (k : Shown). k.rule c r s)
      (shown_by env _ (Expr-F.TsAs e (Some (vPart.TypeAnn ty)) span)
      (vExpr.rolls-TsAs e (Some (vPart.TypeAnn ty)) span))

  satisfies_rule : (e : Expr) (ty : Option TsPart) (span : Range) (c r : Bool) (s : State)
      → (shown_expr env (vExpr.TsSatisfies e ty span)).rule c r s ≡ (shown_expr env e).rule c r s
  satisfies_rule e ty span c r s =
      ap (λ (k : Shown). k.rule c r s)
      (shown_by env _ (Expr-F.TsSatisfies e ty span) (vExpr.rolls-TsSatisfies e ty span))

  bin_rule : (op : BinaryOp) (left right : Expr) (span : Range) (c r : Bool) (s : State)
      → (shown_expr env (vExpr.Bin op left right span)).rule c r s ≡ (None, s)
  bin_rule op left right span c r s =
      ap (λ (k : Shown). k.rule c r s)
      (shown_by env _ (Expr-F.Bin op left right span) (vExpr.rolls-Bin op left right span))

  or_true : (a : Bool) → (a || true) ≡ true
  or_true true = refl
  or_true false = refl

  -- ---- `as const`
  pub const_operand : (first e : Expr) (span : Range) (b : Bool)
      → Decides env x ts first (source.Operand b) e → Decides env x ts first (source.Operand true) (const_of e span)
  const_operand first e span b d = λ c r s.
      const_rule e span c r s ∙ (d true true s
      ∙ (ap (λ (q : Bool). (shown_expr env first).rule q (b || true) s) (or_true b)
      ∙ ap (λ (q : Bool). (shown_expr env first).rule true q s) (or_true b)))

  pub const_type : (first e : Expr) (span : Range) (ty : Item)
      → Decides env x ts first (source.Type ty) e → Decides env x ts first (source.Type ty) (const_of e span)
  const_type first e span ty d = record {
    it = d.it;
    there = d.there;
    rule = λ c r s. const_rule e span c r s ∙ d.rule true true s;
  }

  pub const_untyped : (first e : Expr) (span : Range)
      → Decides env x ts first source.Untyped e → Decides env x ts first source.Untyped (const_of e span)
  const_untyped first e span d = λ c r s. const_rule e span c r s ∙ d true true s

  -- ---- `satisfies`
  pub satisfied : (first e : Expr) (ty : Option TsPart) (span : Range) (before : Source)
      → Decides env x ts first before e → Decides env x ts first before (vExpr.TsSatisfies e ty span)
  satisfied first e ty span (source.Operand b) d = λ c r s. satisfies_rule e ty span c r s ∙ d c r s
  satisfied first e ty span (source.Type it) d = record {
    it = d.it;
    there = d.there;
    rule = λ c r s. satisfies_rule e ty span c r s ∙ d.rule c r s;
  }
  satisfied first e ty span source.Untyped d = λ c r s. satisfies_rule e ty span c r s ∙ d c r s
  satisfied first e ty span source.Broken d = tt

  -- ---- what stands behind a word
  pub anything : (first : Expr) (o : Option Expr) → IfThere (Decides env x ts first source.Broken) o
  anything first None = record { is = tt }
  anything first (Some e) = record { is = tt }

  -- at a place of a row
  asserted_place : (first e : Expr) (after : Source) (r : Range) (kind : TokenKind) (i : Item) (w : What)
      → i.what ≡ w
      → IfThere (Decides env x ts first after) (asserted_by r e kind
      (made x ts w i.from i.to (held x ts i.parts.entries.now) (parts_of x ts i.parts.entries.now)))
      → IfThere (Decides env x ts first after) (asserted_by r e kind (valued x ts i))
  asserted_place first e after r kind i w is h =
      let P : What → Type 0 = λ w.
      IfThere (Decides env x ts first after) (asserted_by r e kind
      (made x ts w i.from i.to (held x ts i.parts.entries.now) (parts_of x ts i.parts.entries.now))) in
      subst P (sym is) h

  pub asserted_leaf : (first e : Expr) (after : Source) (r : Range) (i : Item) (kind : TokenKind)
      → i.what ≡ vWhat.Leaf → Decides env x ts first after (const_of e r)
      → IfThere (Decides env x ts first after) (asserted_by r e kind (valued x ts i))
  asserted_leaf first e after r i kind is d = asserted_place first e after r kind i vWhat.Leaf is (record { is = d })

  asserted_node : (first e : Expr) (after : Source) (r : Range) (w : Bool) (o : Option TsType)
      → ((ty : TsType) → o ≡ Some ty → w ≡ true
      → Decides env x ts first after (vExpr.TsAs e (Some (vPart.TypeAnn ty)) r))
      → ((ty : TsType) → w ≡ false → Decides env x ts first after (vExpr.TsSatisfies e (Some (vPart.TypeAnn ty)) r))
      → IfThere (Decides env x ts first after) (option_map (λ ty. if w then vExpr.TsAs e (Some (vPart.TypeAnn ty)) r
      else vExpr.TsSatisfies e (Some (vPart.TypeAnn ty)) r) o)
  asserted_node first e after r w None f g = record { is = tt }
  asserted_node first e after r true (Some ty) f g = record { is = f ty refl refl }
  asserted_node first e after r false (Some ty) f g = record { is = g ty refl }

  type_place : (i : Item) (label : NodeKind) → i.what ≡ vWhat.Node label
      → ts_type_in (valued x ts i) ≡ ts_type_in (node_of x ts label i.from i.to (held x ts i.parts.entries.now))
  type_place i label is =
      ap (λ (w : What). ts_type_in (made x ts w i.from i.to (held x ts i.parts.entries.now)
      (parts_of x ts i.parts.entries.now))) is

  pub as_node : (first e : Expr) (r : Range) (i : Item) (label : NodeKind) (kind : TokenKind) (b : Bool)
      → i.what ≡ vWhat.Node label → same_kind kind k.AsWord ≡ b → b ≡ true
      → IfThere (Decides env x ts first (source.Type i)) (asserted_by r e kind (valued x ts i))
  as_node first e r i label kind b is s w =
      asserted_place first e (source.Type i) r kind i (vWhat.Node label) is
      (asserted_node first e (source.Type i) r (same_kind kind k.AsWord)
      (ts_type_in (node_of x ts label i.from i.to (held x ts i.parts.entries.now)))
      (λ ty there yes_. record {
        it = ty;
        there = type_place i label is ∙ there;
        rule = λ c u s. as_rule e ty r c u s;
      }) (λ ty no_. absurd (true≢false (sym (s ∙ w) ∙ no_))))

  pub satisfies_node : (first e : Expr) (before : Source) (r : Range) (i : Item) (label : NodeKind) (kind : TokenKind)
      (b : Bool) → i.what ≡ vWhat.Node label → same_kind kind k.AsWord ≡ b → b ≡ false
      → Decides env x ts first before e
      → IfThere (Decides env x ts first before) (asserted_by r e kind (valued x ts i))
  satisfies_node first e before r i label kind b is s w d =
      asserted_place first e before r kind i (vWhat.Node label) is
      (asserted_node first e before r (same_kind kind k.AsWord)
      (ts_type_in (node_of x ts label i.from i.to (held x ts i.parts.entries.now)))
      (λ ty there yes_. absurd (true≢false (sym yes_ ∙ (s ∙ w))))
      (λ ty no_. satisfied first e (Some (vPart.TypeAnn ty)) r before d))

  -- ---- a turn
  bin : (first e : Expr) (r : Range) (op : Option BinaryOp) (right : Option Expr)
      → IfThere (Decides env x ts first source.Untyped)
      (given op (λ op. given right (λ right. Some (vExpr.Bin op e right r))))
  bin first e r None right = record { is = tt }
  bin first e r (Some op) None = record { is = tt }
  bin first e r (Some op) (Some it) = record { is = λ c u s. bin_rule op e it r c u s }

  -- an operand
  operand : (first e : Expr) (r : Range) (from : ℕ) (g v : Value) → as_group v ≡ nil
      → IfThere (Decides env x ts first source.Untyped) (turned_by ts r e from g v)
  operand first e r from g (more v vs) none = absurd (different none)
    where
      different : more v vs ≡ nil → ⊥
      different e = cc
  operand first e r from g absent none = bin first e r (binary_between ts from (first_of absent)) (expr_at g 1)
  operand first e r from g nil none = bin first e r (binary_between ts from (first_of nil)) (expr_at g 1)
  operand first e r from g (token n) none = bin first e r (binary_between ts from (first_of (token n))) (expr_at g 1)
  operand first e r from g (node a b m) none =
      bin first e r (binary_between ts from (first_of (node a b m))) (expr_at g 1)

  at_right : (before after : Source) (g v : Value) → part g 1 ≡ v
      → ((first : Expr) (r : Range) (from : ℕ) (e : Expr) → Decides env x ts first before e
      → IfThere (Decides env x ts first after) (turned_by ts r e from g v))
      → Turned env x ts before after g
  at_right before after g v is h = λ first r from e d.
      subst (λ (w : Value). IfThere (Decides env x ts first after) (turned_by ts r e from g w)) (sym is)
      (h first r from e d)

  place_group : (i : Item) (w : What) → i.what ≡ w
      → as_group (made x ts w i.from i.to (held x ts i.parts.entries.now) (parts_of x ts i.parts.entries.now)) ≡ nil
      → as_group (valued x ts i) ≡ nil
  place_group i w is h =
      ap (λ (w : What). as_group (made x ts w i.from i.to (held x ts i.parts.entries.now)
      (parts_of x ts i.parts.entries.now))) is ∙ h

  pub node_right : (before : Source) (g : Value) (i : Item) (label : NodeKind) → part g 1 ≡ valued x ts i
      → i.what ≡ vWhat.Node label → Turned env x ts before source.Untyped g
  node_right before g i label is w =
      at_right before source.Untyped g (valued x ts i) is
      (λ first r from e d. operand first e r from g (valued x ts i) (place_group i (vWhat.Node label) w refl))

  pub lean_right : (before : Source) (g : Value) (i : Item) (lean : Lean) → part g 1 ≡ valued x ts i
      → i.what ≡ vWhat.Lean lean → Turned env x ts before source.Untyped g
  lean_right before g i lean is w =
      at_right before source.Untyped g (valued x ts i) is
      (λ first r from e d. operand first e r from g (valued x ts i) (place_group i (vWhat.Lean lean) w
      (group_leant x ts lean i.from (parts_of x ts i.parts.entries.now))))

  pub broken_right : (before : Source) (g : Value) → Turned env x ts before source.Broken g
  broken_right before g = λ first r from e d. anything first (turned_by ts r e from g (part g 1))

  -- by the word before it
  by_word : (first e : Expr) (after : Source) (r : Range) (v : Value) (o : Option Token) (b : Bool) → b ≡ is_word_as o
      → ((kind : TokenKind) → same_kind kind k.AsWord ≡ b
      → IfThere (Decides env x ts first after) (asserted_by r e kind v))
      → IfThere (Decides env x ts first after) (given (option_map (λ t. t.kind) o) (λ kind. asserted_by r e kind v))
  by_word first e after r v None b is h = record { is = tt }
  by_word first e after r v (Some t) b is h = h t.kind (sym is)

  pub group_right : (before after : Source) (g : Value) (i : Item) (v vs : Value) (o : Option ℕ) (b : Bool)
      → part g 1 ≡ valued x ts i → i.what ≡ vWhat.Parts → held x ts i.parts.entries.now ≡ more v vs
      → token_at ts g 0 ≡ token_there ts o → b ≡ is_word_as (token_there ts o)
      → ((r : Range) (kind : TokenKind) (first e : Expr) → same_kind kind k.AsWord ≡ b
      → Decides env x ts first before e → IfThere (Decides env x ts first after) (asserted_by r e kind v))
      → Turned env x ts before after g
  group_right before after g i v vs o b is w more_ there word h =
      at_right before after g (more v vs)
      (is ∙ (ap (λ (w : What). made x ts w i.from i.to (held x ts i.parts.entries.now)
      (parts_of x ts i.parts.entries.now)) w ∙ more_))
      (λ first r from e d.
      subst (λ (t : Option Token). IfThere (Decides env x ts first after)
      (given (option_map (λ t. t.kind) t) (λ kind. asserted_by r e kind v))) (sym there)
      (by_word first e after r v (token_there ts o) b word (λ kind s. h r kind first e s d)))

  -- ---- a type or `const` before an operand
  pub cast_there : (after : Source) (g v : Value) (r : Range) (e : Expr) → part g 0 ≡ v
      → ((kind : TokenKind) → same_kind kind k.AsWord ≡ true → Decides env x ts e (source.Operand false) e
      → IfThere (Decides env x ts e after) (asserted_by r e kind v))
      → IfThere (Decides env x ts e after) (asserted_by r e k.AsWord (part g 0))
  cast_there after g v r e is h =
      subst (λ (w : Value). IfThere (Decides env x ts e after) (asserted_by r e k.AsWord w)) (sym is)
      (h k.AsWord refl (λ c u s. refl))

  -- ---- turns of a chain
  given_turn : (first : Expr) (before after : Source) (r : Range) (from : ℕ) (g : Value) (o : Option Expr)
      → IfThere (Decides env x ts first before) o → Turned env x ts before after g
      → IfThere (Decides env x ts first after) (given o (λ left. turned_by ts r left from g (part g 1)))
  given_turn first before after r from g None h turn = record { is = tt }
  given_turn first before after r from g (Some e) h turn = turn first r from e h.is

  pub leaning_turn : (first : Expr) (from to : ℕ) (v turn g : Value) (before after : Source)
      → g ≡ group (as_group turn) 0 → IfThere (Decides env x ts first before) (expr_in v)
      → Turned env x ts before after g
      → IfThere (Decides env x ts first after) (expr_in (leaning x ts vLean.TypedBinary from v (to, turn)))
  unfolding build expr_of typed_binary
  leaning_turn first from to v turn g before after e left known =
      subst (λ (h : Value). IfThere (Decides env x ts first after)
      (given (expr_in v) (λ left. turned_by ts (span_of ts from to) left (behind v) h (part h 1)))) e
      (given_turn first before after (span_of ts from to) (behind v) g (expr_in v) left known)

  pub leaned_none : (ps : List Held) (b : Source) → ps ≡ [] → Leaned env x ts b b ps
  unfolding leaned
  leaned_none ps b e =
      let P : List Held → Type 0 = λ ps. Leaned env x ts b b ps in subst P (sym e) (λ first from v known. known)

  pub leaned_next : (all ps : List Held) (to : ℕ) (turn : Value) (before mid after : Source) → all ≡ (to, turn) ∷ ps
      → ((first : Expr) (from to : ℕ) (v : Value) → IfThere (Decides env x ts first before) (expr_in v)
      → IfThere (Decides env x ts first mid) (expr_in (leaning x ts vLean.TypedBinary from v (to, turn))))
      → Leaned env x ts mid after ps → Leaned env x ts before after all
  unfolding leaned
  leaned_next all ps to turn before mid after e step rest =
      let P : List Held → Type 0 = λ ps. Leaned env x ts before after ps in
      subst P (sym e) (λ first from v known.
      rest first from (leaning x ts vLean.TypedBinary from v (to, turn)) (step first from to v known))

  -- ---- the operand itself
  pub first_decides : (e : Expr) → Decides env x ts e (source.Operand false) e
  first_decides e = λ c r s. refl

  -- ---- an operator of TypeScript
  pub turned_by_source : (Q : Expr → Type 0) (after : Source) (r : Range) (from : ℕ) (o : Option Expr) (g : Value)
      → Turned env x ts (source.Operand false) after g
      → ((first e : Expr) → o ≡ Some first → Decides env x ts first after e → Q e)
      → IfThere Q (operator.turned ts r from o g)
  unfolding operator.turned
  turned_by_source Q after r from o g turn h = go o refl
    where
      fin : (first : Expr) → o ≡ Some first → (p : Option Expr) → IfThere (Decides env x ts first after) p → IfThere Q p
      fin first is None d = record { is = tt }
      fin first is (Some e) d = record { is = h first e is d.is }

      go : (p : Option Expr) → o ≡ p → IfThere Q (given p (λ left. turned_by ts r left from g (part g 1)))
      go None is = record { is = tt }
      go (Some first) is =
          fin first is (turned_by ts r first from g (part g 1)) (turn first r from first (first_decides first))

  pub cast_by_source : (Q : Expr → Type 0) (after : Source) (r : Range) (o : Option Expr) (g : Value)
      → ((r : Range) (e : Expr) → IfThere (Decides env x ts e after) (asserted_by r e k.AsWord (part g 0)))
      → ((first e : Expr) → o ≡ Some first → Decides env x ts first after e → Q e)
      → IfThere Q (operator.asserted r g o)
  unfolding operator.asserted
  cast_by_source Q after r o g known h = go o refl
    where
      fin : (first : Expr) → o ≡ Some first → (p : Option Expr) → IfThere (Decides env x ts first after) p → IfThere Q p
      fin first is None d = record { is = tt }
      fin first is (Some e) d = record { is = h first e is d.is }

      go : (p : Option Expr) → o ≡ p → IfThere Q (given p (λ arg. asserted_by r arg k.AsWord (part g 0)))
      go None is = record { is = tt }
      go (Some first) is = fin first is (asserted_by r first k.AsWord (part g 0)) (known r first)

  -- ---- nodes that lean left
  leant_by : (Q : Expr → Type 0) (after : Source) (from to : ℕ) (v : Value) (ps : List Held)
      → Leaned env x ts (source.Operand false) after ps
      → ((first e : Expr) → expr_in v ≡ Some first → Decides env x ts first after e → Q e)
      → IfThere Q (expr_in (leant x ts vLean.TypedBinary from ((to, v) ∷ ps)))
  unfolding leaned build expr_of typed_binary
  leant_by Q after from to v [] turns h = record { is = tt }
  leant_by Q after from to v (p ∷ ps) turns h = go (expr_in v) refl
    where
      fin : (first : Expr) → expr_in v ≡ Some first → (q : Option Expr) → IfThere (Decides env x ts first after) q
          → IfThere Q q
      fin first is None d = record { is = tt }
      fin first is (Some e) d = record { is = h first e is d.is }

      -- without a first operand there is no expression
      none_of : (w : Value) (ps : List Held) → expr_in w ≡ None
          → IfThere Q (expr_in (leaned x ts vLean.TypedBinary from w ps))
      none_of w [] e = subst (λ (o : Option Expr). IfThere Q o) (sym e) (record { is = tt })
      none_of w (q ∷ qs) e =
          none_of (leaning x ts vLean.TypedBinary from w q) qs
          (ap (λ (o : Option Expr). given o (λ left. turned_by ts (span_of ts from q.0) left (behind w)
          (group (as_group q.1) 0) (part (group (as_group q.1) 0) 1))) e)

      go : (o : Option Expr) → expr_in v ≡ o
          → IfThere Q (expr_in (leaned x ts vLean.TypedBinary from (leaning x ts vLean.TypedBinary from v p) ps))
      go None is = none_of v (p ∷ ps) is
      go (Some first) is =
          fin first is (expr_in (leaned x ts vLean.TypedBinary from (leaning x ts vLean.TypedBinary from v p) ps))
          (turns first from v (subst (λ (o : Option Expr). IfThere (Decides env x ts first (source.Operand false)) o)
          (sym is) (record { is = first_decides first })))

  pub lean_by_source : (Q : Expr → Type 0) (after : Source) (i : Item) (v : Value) (to : ℕ) (ps : List Held)
      → i.what ≡ vWhat.Lean vLean.TypedBinary → parts_of x ts i.parts.entries.now ≡ (to, v) ∷ ps
      → Leaned env x ts (source.Operand false) after ps
      → ((first e : Expr) → expr_in v ≡ Some first → Decides env x ts first after e → Q e)
      → IfThere Q (expr_in (valued x ts i))
  lean_by_source Q after i v to ps is e turns h =
      let R : What → Type 0 = λ w.
      IfThere Q (expr_in (made x ts w i.from i.to (held x ts i.parts.entries.now)
      (parts_of x ts i.parts.entries.now))) in
      subst R (sym is)
      (subst (λ (qs : List Held). IfThere Q (expr_in (leant x ts vLean.TypedBinary i.from qs))) (sym e)
      (leant_by Q after i.from to v ps turns h))

  -- ---- operators of JavaScript that lean left
  abbrev NoType : Expr → Type 0
  NoType e = (c r : Bool) (s : State) → (shown_expr env e).rule c r s ≡ (None, s)

  bin_there : (from : ℕ) (v : Value) (p : Held) → IfThere NoType (expr_in (leaning x ts vLean.Binary from v p))
  unfolding build expr_of
  bin_there from v p = record {
    is = (forms.binary NoType x ts (span_of ts from p.0)
        (λ op left right. bin_rule op left right (span_of ts from p.0)) (more v (as_group p.1))).is;
  }

  bins : (from : ℕ) (v : Value) (ps : List Held) → IfThere NoType (expr_in v)
      → IfThere NoType (expr_in (leaned x ts vLean.Binary from v ps))
  unfolding leaned
  bins from v [] known = known
  bins from v (p ∷ ps) known = bins from (leaning x ts vLean.Binary from v p) ps (bin_there from v p)

  binary_leant : (from : ℕ) (ps : List Held) → IfThere NoType (expr_in (leant x ts vLean.Binary from ps))
  binary_leant from [] = record { is = tt }
  binary_leant from (p ∷ []) = record { is = tt }
  binary_leant from (p ∷ q ∷ ps) = bins from (leaning x ts vLean.Binary from p.1 q) ps (bin_there from p.1 q)

  pub binary_untyped : (i : Item) → i.what ≡ vWhat.Lean vLean.Binary
      → IfThere (λ e. (c r : Bool) (s : State) → (shown_expr env e).rule c r s ≡ (None, s)) (expr_in (valued x ts i))
  binary_untyped i is =
      let R : What → Type 0 = λ w.
      IfThere NoType (expr_in
      (made x ts w i.from i.to (held x ts i.parts.entries.now) (parts_of x ts i.parts.entries.now))) in
      subst R (sym is) (binary_leant i.from (parts_of x ts i.parts.entries.now))
