-- What a value with an operator or `as` after it is, by what was read of the turn.
use Rattle.std.specs.Prelude.{ℕ, Bool, true, false, ◌&&◌, List, Option, Some, None, option_map, if◌then◌else◌}
use Rattle.std.proofs.Common.{◌≡◌, refl, sym, ap, subst, ◌∙◌}
use Rattle.base.specs.declared.range.Range.{Range}
use Rattle.es_token.specs.declared.token.Token.{Token}
use Rattle.es_token.specs.declared.token.TokenKind.{TokenKind}
use Rattle.es_token.specs.declared.token.TokenKind.TheVariants as k
use Rattle.grammar_theory.specs.Key.{same_kind}
use Rattle.es_grammar.specs.declared.rows.NodeKind.{NodeKind}
use Rattle.es_ast.specs.declared.leaf.BinaryOp.{BinaryOp}
use Rattle.es_ast.specs.declared.ts.ts.TsPart.TheVariants as vPart
use Rattle.es_ast.specs.declared.ts.ts.TsType.{TsType}
use Rattle.es_ast.specs.declared.ast.Expr.{Expr}
use Rattle.es_ast.specs.declared.ast.Expr.TheVariants as vExpr
use Rattle.es_lowering.specs.Value.{Value, absent, nil, more, token, node, part, as_group, given, first_of}
use Rattle.es_lowering.specs.Texts.{span_of, token_at}
use Rattle.es_lowering.specs.Operators.{binary_between}
use Rattle.es_lowering.specs.TypedExpressions.{asserted_by, turned_by}
use Rattle.es_lowering.specs.Lowering.{build, type_of, as_target}
use Rattle.es_syntax.specs.declared.entry.Lean.{Lean}
use Rattle.es_syntax.specs.declared.entry.Lean.TheVariants as vLean
use Rattle.es_syntax.specs.declared.entry.Entry.{Entry}
use Rattle.es_syntax.specs.Held.{held, node_of, leant, parts_of, label_of, token_there}
use Rattle.es_syntax.specs.Roles.{expr_in, ts_type_in}
use Rattle.es_syntax.proofs.Others.{in_held, in_role, in_leant}
use Rattle.dts_rules.specs.Rules.{Env}
use Rattle.dts_rules.specs.Programs.{shown_expr}
use Rattle.dts_enums.specs.Forms.{Starts, NumberType, Turned, is_word}
use Rattle.dts_enums.proofs.StartForms as start

-- ---- after a word
module _ (env : Env) (r : Range) (e : Expr) (kind : TokenKind) where
  no_type : (v : Value) → ts_type_in v ≡ None → Starts env false (asserted_by r e kind v)
  no_type (token n) none = start.starts_TsConstAssertion env e r
  no_type (node from to m) none =
      let P : Option TsType → Type 0 = λ o.
      Starts env false (option_map (λ ty. if same_kind kind k.AsWord then vExpr.TsAs e (Some (vPart.TypeAnn ty)) r
      else vExpr.TsSatisfies e (Some (vPart.TypeAnn ty)) r) o) in
      subst P (sym none) tt
  no_type absent none = tt
  no_type nil none = tt
  no_type (more v vs) none = tt

  asserted : (w b : Bool) (ty : Option TsType) → NumberType b ty
      → Starts env (w && b) (option_map (λ ty. if w then vExpr.TsAs e (Some (vPart.TypeAnn ty)) r
      else vExpr.TsSatisfies e (Some (vPart.TypeAnn ty)) r) ty)
  asserted w b None known = tt
  asserted true b (Some ty) known = start.starts_TsAs env e (Some (vPart.TypeAnn ty)) r ∙ known
  asserted false b (Some ty) known = start.starts_TsSatisfies env e (Some (vPart.TypeAnn ty)) r

  pub const_turn : (n : ℕ) → Starts env false (asserted_by r e kind (token n))
  const_turn n = start.starts_TsConstAssertion env e r

  pub type_turn : (x : List ℕ) (ts : List Token) (label : NodeKind) (from to : ℕ) (p : Value) (w b c : Bool)
      → same_kind kind k.AsWord ≡ w → c ≡ (w && b) → NumberType b (type_of x ts label (span_of ts from to) p)
      → Starts env c (asserted_by r e kind (node_of x ts label from to p))
  unfolding build
  type_turn x ts label from to p w b c is both known =
      let P : Bool → Type 0 = λ c. Starts env c (asserted_by r e kind (node_of x ts label from to p)) in
      let Q : Bool → Type 0 = λ w. Starts env (w && b) (asserted_by r e kind (node_of x ts label from to p)) in
      subst P (sym both)
      (subst Q is (asserted (same_kind kind k.AsWord) b (type_of x ts label (span_of ts from to) p) known))

  pub role_turn : (x : List ℕ) (ts : List Token) (v : Value)
      → Starts env false (asserted_by r e kind (as_target x ts v))
  role_turn x ts v = no_type (as_target x ts v) (in_role x ts (λ m. m.ts_type) (λ e. refl) v)

  pub parts_turn : (x : List ℕ) (ts : List Token) (es : List Entry)
      → Starts env false (asserted_by r e kind (held x ts es))
  parts_turn x ts es = no_type (held x ts es) (in_held x ts (λ m. m.ts_type) es)

  leaning_type : (x : List ℕ) (ts : List Token) (lean : Lean) (from : ℕ) (r : Range) (p : Value)
      → (build x ts (label_of lean) from r p).ts_type ≡ None
  unfolding build type_of
  leaning_type x ts vLean.Binary from r p = refl
  leaning_type x ts vLean.TypedBinary from r p = refl

  pub lean_turn : (x : List ℕ) (ts : List Token) (lean : Lean) (from : ℕ) (es : List Entry)
      → Starts env false (asserted_by r e kind (leant x ts lean from (parts_of x ts es)))
  lean_turn x ts lean from es =
      no_type (leant x ts lean from (parts_of x ts es))
      (in_leant x ts (λ m. m.ts_type) (leaning_type x ts) lean from (parts_of x ts es))

-- ---- a turn
module _ (env : Env) (ts : List Token) (before : Bool) (g : Value) where
  bin : (r : Range) (e : Expr) (b : Bool) (op : Option BinaryOp) (q : Option Expr)
      → (shown_expr env e).starts_enum ≡ before → Starts env b q
      → Starts env (before && b) (given op (λ op. given q (λ right. Some (vExpr.Bin op e right r))))
  bin r e b None q known right = tt
  bin r e b (Some op) None known right = tt
  bin r e b (Some op) (Some q) known right =
      start.starts_Bin env op e q r ∙ ap (λ c. c && (shown_expr env q).starts_enum) known ∙ ap (λ c. before && c) right

  plain : (v : Value) (b : Bool) → as_group v ≡ nil → Starts env b (expr_in (part g 1))
      → (r : Range) (from : ℕ) (e : Expr)
      → (shown_expr env e).starts_enum ≡ before → Starts env (before && b) (turned_by ts r e from g v)
  plain (more v vs) b none right r from e known = absurd (different none)
    where
      different : more v vs ≡ nil → ⊥
      different e = cc
  plain absent b none right r from e known =
      bin r e b (binary_between ts from (first_of absent)) (expr_in (part g 1)) known right
  plain nil b none right r from e known =
      bin r e b (binary_between ts from (first_of nil)) (expr_in (part g 1)) known right
  plain (token n) b none right r from e known =
      bin r e b (binary_between ts from (first_of (token n))) (expr_in (part g 1)) known right
  plain (node first to m) b none right r from e known =
      bin r e b (binary_between ts from (first_of (node first to m))) (expr_in (part g 1)) known right

  pub no_right : (after : Bool) → part g 1 ≡ absent → Turned env ts before after g
  no_right after is r from e known =
      let Q : Value → Type 0 = λ v. Starts env after (turned_by ts r e from g v) in
      subst Q (sym is) (nothing (binary_between ts from (first_of absent)) (expr_in (part g 1)) (ap expr_in is))
    where
      nothing : (op : Option BinaryOp) (q : Option Expr) → q ≡ None
          → Starts env after (given op (λ op. given q (λ right. Some (vExpr.Bin op e right r))))
      nothing None q e = tt
      nothing (Some op) None e = tt
      nothing (Some op) (Some q) e = let bad : ⊥ = cc in absurd bad

  -- an operand
  pub operand_right : (v row : Value) (b after : Bool) → part g 1 ≡ v → row ≡ as_group v → row ≡ nil
      → Starts env b (expr_in v) → after ≡ (before && b) → Turned env ts before after g
  operand_right v row b after is same none known both r from e before_is =
      let P : Value → Type 0 = λ v. as_group v ≡ nil in
      let Q : Value → Type 0 = λ v. Starts env b (expr_in v) in
      let R : Bool → Type 0 = λ after. Starts env after (turned_by ts r e from g (part g 1)) in
      subst R (sym both)
      (plain (part g 1) b (subst P (sym is) (sym same ∙ none)) (subst Q (sym is) known) r from e before_is)

  group_is : (w v vs : Value) → as_group w ≡ more v vs → w ≡ more v vs
  group_is (more u us) v vs e = e
  group_is absent v vs e = let bad : ⊥ = cc in absurd bad
  group_is nil v vs e = let bad : ⊥ = cc in absurd bad
  group_is (token n) v vs e = let bad : ⊥ = cc in absurd bad
  group_is (node from to m) v vs e = let bad : ⊥ = cc in absurd bad

  -- `as`, `satisfies`, and what is after it
  pub group_right : (w row v vs : Value) (o : Option ℕ) (is_as after : Bool) → part g 1 ≡ w → row ≡ as_group w
      → row ≡ more v vs → token_at ts g 0 ≡ token_there ts o → is_as ≡ is_word k.AsWord (token_there ts o)
      → ((r : Range) (e : Expr) (kind : TokenKind) → same_kind kind k.AsWord ≡ is_as
      → Starts env after (asserted_by r e kind v))
      → Turned env ts before after g
  group_right w row v vs o is_as after is same more_ there word known r from e before_is =
      let R : Value → Type 0 = λ u. Starts env after (turned_by ts r e from g u) in
      let P : Option Token → Type 0 = λ t. is_as ≡ is_word k.AsWord t in
      subst R (sym (is ∙ group_is w v vs (sym same ∙ more_))) (go (token_at ts g 0) (subst P (sym there) word))
    where
      go : (t : Option Token) → is_as ≡ is_word k.AsWord t
          → Starts env after (given (option_map (λ t. t.kind) t) (λ kind. asserted_by r e kind v))
      go None e = tt
      go (Some t) same = known r e t.kind (sym same)
