-- What values of each alternative are, by what was read of them.
use Rattle.std.specs.Prelude.{ℕ, Bool, true, false, ◌&&◌, List, [], ◌∷◌, ◌++◌, Option, Some, None, option_map, if◌then◌else◌, IfSome, slice_range}
use Rattle.std.proofs.Common.{◌≡◌, refl, sym, ap, subst, ◌∙◌}
use Rattle.base.specs.declared.range.Range.{Range}
use Rattle.es_token.specs.declared.token.Token.{Token}
use Rattle.es_token.specs.declared.token.TokenKind.{TokenKind}
use Rattle.es_token.specs.declared.token.TokenKind.TheVariants as k
use Rattle.grammar_theory.specs.Key.{same_kind}
use Rattle.es_grammar.specs.declared.rows.NodeKind.{NodeKind}
use Rattle.es_grammar.specs.declared.rows.NodeKind.TheVariants as l
use Rattle.es_ast.specs.declared.ts.leaf.TplElement.{TplElement}
use Rattle.es_ast.specs.declared.leaf.BinaryOp.{BinaryOp}
use Rattle.es_ast.specs.declared.leaf.BinaryOp.TheVariants as vBinary
use Rattle.es_ast.specs.declared.leaf.Lit.{Lit}
use Rattle.es_ast.specs.declared.leaf.Lit.TheVariants as vLit
use Rattle.es_ast.specs.declared.ast.Expr.{Expr}
use Rattle.es_ast.specs.declared.ast.Expr.TheVariants as vExpr
use Rattle.es_lowering.specs.Value.{Value, absent, nil, more, part, as_group, group, given, turns, expr_at, first_of, behind}
use Rattle.es_lowering.specs.Texts.{span_of, token_at, ident_at, private_at, str_at, numeric_of, piece_there}
use Rattle.es_lowering.specs.Operators.{binary_between}
use Rattle.es_lowering.specs.Expressions as exprs
use Rattle.es_lowering.specs.TypedExpressions as typed
use Rattle.es_lowering.specs.Lowering.{build, expr_of, as_target}
use Rattle.es_syntax.specs.declared.entry.Entry.{Entry}
use Rattle.es_syntax.specs.Held.{held, node_of, token_there}
use Rattle.es_syntax.specs.Roles.{expr_in}
use Rattle.es_syntax.specs.Views.{is_one_of}
use Rattle.es_syntax.proofs.Others.{in_held, in_role}
use Rattle.es_expr_spans.proofs.Given.{one, none, of_given, of_mapped}
use Rattle.dts_rules.specs.Rules.{Env, lit_starts}
use Rattle.dts_rules.specs.Programs.{shown_expr}
use Rattle.dts_enums.specs.Forms.{value_labels, Starts, Turned, AllStart, all_start, is_word}
use Rattle.dts_enums.proofs.StartForms as start

-- ---- words
pub word_is : (o : Option Token) (t : Token) (word : TokenKind) (b : Bool) → o ≡ Some t → same_kind t.kind word ≡ b
    → b ≡ is_word word o
word_is o t word b there same =
    let P : Option Token → Type 0 = λ o. b ≡ is_word word o in subst P (sym there) (sym same)

pub no_word : (o : Option Token) (word : TokenKind) → o ≡ None → false ≡ is_word word o
no_word o word none = let P : Option Token → Type 0 = λ o. false ≡ is_word word o in subst P (sym none) refl

-- ---- by alternatives
module _ (env : Env) (x : List ℕ) (ts : List Token) (from : ℕ) (r : Range) where
  abbrev Is : Bool → Expr → Type 0
  Is b e = (shown_expr env e).starts_enum ≡ b

  pub name : (p : Value) → Starts env true (expr_of x ts l.Name from r p)
  unfolding expr_of exprs.name
  name p = (of_mapped (Is true) (ident_at x ts p 0) (λ id. start.starts_Ident env id)).is

  pub str : (p : Value) → Starts env true (expr_of x ts l.Str from r p)
  unfolding expr_of exprs.str
  str p = (of_mapped (Is true) (str_at x ts p 0) (λ it. start.starts_Lit env (vLit.Str it))).is

  pub template : (p : Value) → Starts env true (expr_of x ts l.Template from r p)
  unfolding expr_of exprs.template
  template p = (of_mapped (Is true) (piece_there x ts p 0) (λ piece. start.starts_Tpl env (piece ∷ []) [] r)).is

  lit : (o : Option Lit) (b : Bool) → IfSome o (λ it. lit_starts it ≡ b) → Starts env b (option_map vExpr.Lit o)
  lit None b known = tt
  lit (Some it) b known = start.starts_Lit env it ∙ known

  numeric : (t : Token) → IfSome (numeric_of x t) (λ it. lit_starts it ≡ same_kind t.kind k.Number)
  unfolding numeric_of
  numeric t = by (same_kind t.kind k.Number) (same_kind t.kind k.BigInt)
    where
      by : (a b : Bool) → IfSome (if a
          then Some (vLit.Num (record { raw = slice_range x t.range.start t.range.end; span = t.range }))
          else (if b
          then Some (vLit.BigInt (record { raw = slice_range x t.range.start t.range.end; span = t.range }))
          else None)) (λ it. lit_starts it ≡ a)
      by true b = refl
      by false true = refl
      by false false = tt

  pub number : (p : Value) (o : Option ℕ) (b : Bool) → token_at ts p 0 ≡ token_there ts o
      → b ≡ is_word k.Number (token_there ts o) → Starts env b (expr_of x ts l.Number from r p)
  unfolding expr_of exprs.number
  number p o b there is =
      let P : Option Token → Type 0 = λ t. b ≡ is_word k.Number t in
      lit (given (token_at ts p 0) (numeric_of x)) b (go (token_at ts p 0) (subst P (sym there) is))
    where
      go : (t : Option Token) → b ≡ is_word k.Number t → IfSome (given t (numeric_of x)) (λ it. lit_starts it ≡ b)
      go None e = tt
      go (Some t) e =
          let Q : Bool → Type 0 = λ b. IfSome (numeric_of x t) (λ it. lit_starts it ≡ b) in subst Q (sym e) (numeric t)

  pub paren : (p v : Value) (b : Bool) → part p 0 ≡ v → Starts env b (expr_in v)
      → Starts env b (expr_of x ts l.Parenthesized from r p)
  unfolding expr_of exprs.parenthesized
  paren p v b e known =
      let P : Value → Type 0 = λ v. Starts env b (expr_in v) in go (expr_in (part p 0)) (subst P (sym e) known)
    where
      go : (o : Option Expr) → Starts env b o → Starts env b (option_map (λ e. vExpr.Paren e r) o)
      go None known = tt
      go (Some it) known = start.starts_Paren env it r ∙ known

  -- ---- operators: both operands
  with_op : {A : Type 0} (make : A → Expr → Expr → Expr) (a b : Bool)
      → ((op : A) (left right : Expr) → (shown_expr env (make op left right)).starts_enum
      ≡ ((shown_expr env left).starts_enum && (shown_expr env right).starts_enum))
      → (o : Option Expr) (op : Option A) (q : Option Expr) → Starts env a o → Starts env b q
      → Starts env (a && b) (given o (λ left. given op (λ op. given q (λ right. Some (make op left right)))))
  with_op make a b is None op q left right = tt
  with_op make a b is (Some it) None q left right = tt
  with_op make a b is (Some it) (Some op) None left right = tt
  with_op make a b is (Some it) (Some op) (Some q) left right =
      is op it q ∙ ap (λ c. c && (shown_expr env q).starts_enum) left ∙ ap (λ c. a && c) right

  binary : (p v w : Value) (a b : Bool) → part p 0 ≡ v → part p 2 ≡ w → Starts env a (expr_in v)
      → Starts env b (expr_in w) → Starts env (a && b) (expr_of x ts l.Binary from r p)
  unfolding expr_of exprs.binary
  binary p v w a b e f left right =
      let P : Value → Type 0 = λ v. Starts env a (expr_in v) in
      let Q : Value → Type 0 = λ w. Starts env b (expr_in w) in
      with_op (λ op left right. vExpr.Bin op left right r) a b (λ op left right. start.starts_Bin env op left right r)
      (expr_in (part p 0)) (binary_between ts (behind (part p 0)) (first_of (part p 2))) (expr_in (part p 2))
      (subst P (sym e) left) (subst Q (sym f) right)

  pub private_in : (p : Value) → Starts env false (expr_of x ts l.PrivateIn from r p)
  unfolding expr_of exprs.private_in
  private_in p =
      (of_given (Is false) (private_at x ts p 0) (λ name.
      of_given (Is false) (expr_in (part p 1)) (λ right.
      one (Is false)
      (start.starts_Bin env vBinary.In (vExpr.PrivateName name) right r
      ∙ ap (λ c. c && (shown_expr env right).starts_enum) (start.starts_PrivateName env name))))).is

  -- whatever follows from one of them alone
  nothing : {A : Type 0} (o : Option A) (f : A → Option Expr) (b : Bool) → o ≡ None → Starts env b (given o f)
  nothing None f b e = tt
  nothing (Some a) f b e = let bad : ⊥ = cc in absurd bad

  pub binary_both : (p v w : Value) (a b c : Bool) → part p 0 ≡ v → part p 2 ≡ w → c ≡ (a && b)
      → Starts env a (expr_in v) → Starts env b (expr_in w) → Starts env c (expr_of x ts l.Binary from r p)
  binary_both p v w a b c e f both left right =
      let P : Bool → Type 0 = λ c. Starts env c (expr_of x ts l.Binary from r p) in
      subst P (sym both) (binary p v w a b e f left right)

  pub binary_no_left : (p : Value) (c : Bool) → part p 0 ≡ absent → Starts env c (expr_of x ts l.Binary from r p)
  unfolding expr_of exprs.binary
  binary_no_left p c e = nothing (expr_in (part p 0)) _ c (ap expr_in e)

  pub binary_no_right : (p : Value) (c : Bool) → part p 2 ≡ absent → Starts env c (expr_of x ts l.Binary from r p)
  unfolding expr_of exprs.binary
  binary_no_right p c e =
      go (expr_in (part p 0)) (binary_between ts (behind (part p 0)) (first_of (part p 2))) (expr_in (part p 2))
      (ap expr_in e)
    where
      go : (o : Option Expr) (op : Option BinaryOp) (q : Option Expr) → q ≡ None
          → Starts env c (given o (λ left. given op (λ op. given q (λ right. Some (vExpr.Bin op left right r)))))
      go None op q e = tt
      go (Some it) None q e = tt
      go (Some it) (Some op) None e = tt
      go (Some it) (Some op) (Some q) e = let bad : ⊥ = cc in absurd bad

  pub no_paren : (p : Value) (b : Bool) → part p 0 ≡ absent → Starts env b (expr_of x ts l.Parenthesized from r p)
  no_paren p b e = paren p absent b e tt

  -- ---- templates
  pieces : (first : Option Expr) (others : Option (List Expr)) (b c : Bool) → Starts env b first
      → IfSome others (λ es. (b && all_start env es) ≡ c)
      → {A B : Type 0} (head : Option A) (middles : Option B) (tail : Option A) (quasis : A → B → A → List TplElement)
      → Starts env c (given head (λ head. given first (λ first. given middles (λ middles.
      given others (λ others. given tail (λ tail.
      Some (vExpr.Tpl (quasis head middles tail) (first ∷ others) r)))))))
  pieces first others b c k m None middles tail quasis = tt
  pieces None others b c k m (Some h) middles tail quasis = tt
  pieces (Some e) others b c k m (Some h) None tail quasis = tt
  pieces (Some e) None b c k m (Some h) (Some ms) tail quasis = tt
  pieces (Some e) (Some es) b c k m (Some h) (Some ms) None quasis = tt
  pieces (Some e) (Some es) b c k m (Some h) (Some ms) (Some t) quasis =
      start.starts_Tpl env (quasis h ms t) (e ∷ es) r ∙ ap (λ d. d && all_start env es) k ∙ m

  pub template_parts : (p v row : Value) (b c : Bool) → part p 1 ≡ v → row ≡ group p 2 → Starts env b (expr_in v)
      → AllStart env b c row → Starts env c (expr_of x ts l.TemplateParts from r p)
  unfolding expr_of exprs.template_parts
  template_parts p v row b c e g first others =
      let P : Value → Type 0 = λ v. Starts env b (expr_in v) in
      let Q : Value → Type 0 = λ row. AllStart env b c row in
      pieces (expr_in (part p 1)) (turns (λ turn. expr_at turn 1) (group p 2)) b c (subst P (sym e) first)
      (subst Q g others) (piece_there x ts p 0) (turns (λ turn. piece_there x ts turn 0) (group p 2))
      (piece_there x ts p 3) (λ head middles tail. head ∷ (middles ++ tail ∷ []))

  pub no_template : (p : Value) (c : Bool) → part p 1 ≡ absent → Starts env c (expr_of x ts l.TemplateParts from r p)
  unfolding expr_of exprs.template_parts
  no_template p c e = go (piece_there x ts p 0)
    where
      go : (head : Option TplElement)
          → Starts env c (given head (λ head. given (expr_in (part p 1)) (λ first.
          given (turns (λ turn. piece_there x ts turn 0) (group p 2)) (λ middles.
          given (turns (λ turn. expr_at turn 1) (group p 2)) (λ others.
          given (piece_there x ts p 3) (λ tail.
          Some (vExpr.Tpl (head ∷ (middles ++ tail ∷ [])) (first ∷ others) r)))))))
      go None = tt
      go (Some h) = nothing (expr_in (part p 1)) _ c (ap expr_in e)

  -- ---- chains
  pub chain_along : (p v : Value) (b c : Bool) → part p 0 ≡ v → Starts env b (expr_in v)
      → ((r : Range) → Starts env b (expr_at p 0) → Starts env c (exprs.chain r p))
      → Starts env c (expr_of x ts l.Chain from r p)
  unfolding expr_of
  chain_along p v b c e known rest =
      let P : Value → Type 0 = λ v. Starts env b (expr_in v) in rest r (subst P (sym e) known)

  pub no_chain : (p : Value) (c : Bool) → part p 0 ≡ absent → Starts env c (expr_of x ts l.Chain from r p)
  unfolding expr_of exprs.chain
  no_chain p c e = nothing (expr_in (part p 0)) _ c (ap expr_in e)

  -- ---- `as` and operators beside it
  pub typed_binary : (p v g : Value) (before after : Bool) → part p 0 ≡ v → g ≡ group p 1
      → Starts env before (expr_in v) → Turned env ts before after g
      → Starts env after (expr_of x ts l.TypedBinary from r p)
  unfolding expr_of typed.typed_binary
  typed_binary p v g before after e same known turn =
      let P : Value → Type 0 = λ v. Starts env before (expr_in v) in
      let Q : Value → Type 0 = λ g. Turned env ts before after g in
      go (expr_in (part p 0)) (subst P (sym e) known) (subst Q same turn)
    where
      go : (o : Option Expr) → Starts env before o → Turned env ts before after (group p 1)
          → Starts env after
          (given o (λ left. typed.turned_by ts r left (behind (part p 0)) (group p 1) (part (group p 1) 1)))
      go None known turn = tt
      go (Some it) known turn = turn r (behind (part p 0)) it known

  pub no_typed : (p : Value) (c : Bool) → part p 0 ≡ absent → Starts env c (expr_of x ts l.TypedBinary from r p)
  unfolding expr_of typed.typed_binary
  no_typed p c e = nothing (expr_in (part p 0)) _ c (ap expr_in e)

  -- `<a>b`
  pub assertion : (p g v : Value) (c : Bool) → g ≡ group p 0 → part g 0 ≡ v
      → ((r : Range) (e : Expr) (kind : TokenKind) → same_kind kind k.AsWord ≡ true
      → Starts env c (typed.asserted_by r e kind v))
      → Starts env c (expr_of x ts l.TypeAssertion from r p)
  unfolding expr_of typed.type_assertion
  assertion p g v c same e known =
      let P : Value → Type 0 = λ g. part g 0 ≡ v in go (expr_at p 1) (part (group p 0) 0) (subst P same e)
    where
      go : (o : Option Expr) (w : Value) → w ≡ v → Starts env c (given o (λ e. typed.asserted_by r e k.AsWord w))
      go None w e = tt
      go (Some it) w e =
          let Q : Value → Type 0 = λ w. Starts env c (typed.asserted_by r it k.AsWord w) in
          subst Q (sym e) (known r it k.AsWord refl)

  pub no_assertion : (p g : Value) (c : Bool) → g ≡ group p 0 → part g 0 ≡ absent
      → Starts env c (expr_of x ts l.TypeAssertion from r p)
  no_assertion p g c same e = assertion p g absent c same e (λ r e kind is. tt)

-- ---- the expressions in a template after the first
module _ (env : Env) where
  pub all_none : (row : Value) (b : Bool) → row ≡ nil → AllStart env b b row
  all_none row b e = let P : Value → Type 0 = λ row. AllStart env b b row in subst P (sym e) (and_true b)
    where
      and_true : (b : Bool) → (b && true) ≡ b
      and_true true = refl
      and_true false = refl

  and_assoc : (a b c : Bool) → (a && (b && c)) ≡ ((a && b) && c)
  and_assoc true b c = refl
  and_assoc false b c = refl

  all_more : (o : Option Expr) (os : Option (List Expr)) (before b mid after : Bool) → mid ≡ (before && b)
      → Starts env b o → IfSome os (λ es. (mid && all_start env es) ≡ after)
      → IfSome (given o (λ a. given os (λ rest. Some (a ∷ rest)))) (λ es. (before && all_start env es) ≡ after)
  all_more None os before b mid after m known rest = tt
  all_more (Some e) None before b mid after m known rest = tt
  all_more (Some e) (Some es) before b mid after m known rest =
      ap (λ d. before && (d && all_start env es)) known
      ∙ (and_assoc before b (all_start env es) ∙ (ap (λ d. d && all_start env es) (sym m) ∙ rest))

  pub all_next : (row v vs : Value) (before b mid after : Bool) → row ≡ more v vs → mid ≡ (before && b)
      → Starts env b (expr_at (as_group v) 1) → AllStart env mid after vs → AllStart env before after row
  all_next row v vs before b mid after e m known rest =
      let P : Value → Type 0 = λ row. AllStart env before after row in
      subst P (sym e)
      (all_more (expr_at (as_group v) 1) (turns (λ turn. expr_at turn 1) vs) before b mid after m known rest)

-- ---- at a place of a row
module _ (env : Env) (x : List ℕ) (ts : List Token) where
  -- in the group of a turn
  pub expr_there : (g v w : Value) (b : Bool) → g ≡ as_group w → part g 1 ≡ v → Starts env b (expr_in v)
      → Starts env b (expr_at (as_group w) 1)
  expr_there g v w b same e known =
      let P : Value → Type 0 = λ v. Starts env b (expr_in v) in
      subst P (sym (ap (λ (g : Value). part g 1) (sym same) ∙ e)) known

  pub expr_none : (g w : Value) (b : Bool) → g ≡ as_group w → part g 1 ≡ absent → Starts env b (expr_at (as_group w) 1)
  expr_none g w b same e = expr_there g absent w b same e tt

  pub own : (label : NodeKind) (from to : ℕ) (p : Value) (b : Bool) → is_one_of value_labels label ≡ true
      → (is_one_of value_labels label ≡ true → (from : ℕ) (r : Range) → Starts env b (expr_of x ts label from r p))
      → Starts env b (expr_in (node_of x ts label from to p))
  unfolding build
  own label from to p b e known = known e from (span_of ts from to)

  pub other : (label : NodeKind) (from to : ℕ) (es : List Entry) → is_one_of value_labels label ≡ false
      → Starts env false (expr_in (node_of x ts label from to (held x ts es)))
  unfolding build
  other label from to es e = start.other_value env x ts label from (span_of ts from to) es e

  none_there : (b : Bool) (o : Option Expr) → o ≡ None → Starts env b o
  none_there b o e = let P : Option Expr → Type 0 = λ o. Starts env b o in subst P (sym e) tt

  pub role : (v : Value) (b : Bool) → Starts env b (expr_in (as_target x ts v))
  role v b = none_there b _ (in_role x ts (λ m. m.expr) (λ e. refl) v)

  pub row : (es : List Entry) (b : Bool) → Starts env b (expr_in (held x ts es))
  row es b = none_there b _ (in_held x ts (λ m. m.expr) es)
