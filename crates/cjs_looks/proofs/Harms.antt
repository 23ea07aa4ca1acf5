-- Which forms are harmless.
use Rattle.std.specs.Prelude.{ℕ, ◌+◌, Bool, true, false, ◌&&◌, List, [], ◌∷◌, ◌++◌, Option, Some, None, option_map, if◌then◌else◌}
use Rattle.std.proofs.Common.{◌≡◌, refl, sym, ap, subst, ◌∙◌}
use Rattle.base.specs.declared.range.Range.{Range}
use Rattle.es_token.specs.declared.token.Token.{Token}
use Rattle.es_token.specs.declared.token.TokenKind.TheVariants as k
use Rattle.grammar_theory.specs.Key.{same_kind}
use Rattle.es_ast.specs.declared.ts.leaf.Ident.{Ident}
use Rattle.es_ast.specs.declared.ts.ts.TsPart.{TsPart}
use Rattle.es_ast.specs.declared.ts.ts.TsPart.TheVariants as vPart
use Rattle.es_ast.specs.declared.leaf.ImportPhase.{ImportPhase}
use Rattle.es_ast.specs.declared.leaf.Lit.{Lit}
use Rattle.es_ast.specs.declared.leaf.Lit.TheVariants as vLit
use Rattle.es_ast.specs.declared.ast.Expr.{Expr, roll-Expr}
use Rattle.es_ast.specs.declared.ast.Expr.TheVariants as vExpr
use Rattle.es_ast.specs.declared.ast.ClassMember.TheOpen.{Expr-F}
use Rattle.es_site.specs.Parts.{ExprParts}
use Rattle.es_lowering.specs.Value.{Value, absent, nil, more, token, node, given, as_group, turns, optional}
use Rattle.es_lowering.specs.Value.{arguments_at, args_at, post_at, expr_at, prop_at}
use Rattle.es_lowering.specs.Texts.{ident_of, str_of, regex_of, numeric_of, piece_of, piece_there, property_of, token_of}
use Rattle.es_lowering.specs.Expressions.{Post, chained, from_byte, member_of, index_of, call_of, tagged_of, word_of}
use Rattle.es_lowering.specs.Expressions.{elements, optional_inner}
use Rattle.es_lowering.specs.TypedExpressions.{typed_call_of, typed_tagged_of}
use Rattle.es_lowering.specs.TypedExpressions.{typed_call, non_null_of}
use Rattle.es_lowering.specs.TypedParts.{args_part_at}
use Rattle.es_view_expressions.specs.expr.Primary as primary
use Rattle.es_view_expressions.specs.operator.Operator as operator
use Rattle.es_view_expressions.specs.declared.operator.operator.Operator.{Operator}
use Rattle.es_view_expressions.specs.declared.operator.operator.Operator.TheVariants as o
use Rattle.es_view_expressions.specs.call.Call as call
use Rattle.es_view_expressions.specs.call.Post as post
use Rattle.es_view_expressions.specs.function.Function as fn
use Rattle.es_view_expressions.specs.declared.function.function.Function.{Function}
use Rattle.es_view_expressions.specs.declared.function.function.Function.TheVariants as f
use Rattle.cjs_facts.specs.Looks.{is_harmless, in_harmless}
use Rattle.cjs_facts.proofs.Rolls.{harmless_parts, harmless_roll}
use Rattle.cjs_looks.specs.Odd.{All, IsNothing, IsRunning, IsAssigning, Harms}
use Rattle.cjs_looks.specs.Posts.{Makes, AllMake}
use Rattle.cjs_looks.specs.Seen.{Tells}
use Rattle.cjs_looks.proofs.Given.{tells_given, tells_map}
use Rattle.cjs_looks.proofs.Odd as odd
use Rattle.cjs_looks.proofs.Others as others

harms : (w : ExprParts) (e : Expr) (b : Bool) → roll-Expr w ≡ e → in_harmless (harmless_parts w) ≡ b
    → is_harmless e ≡ b
harms w e b rolls a = ap is_harmless (sym rolls) ∙ (harmless_roll w ∙ a)

lit : (it : Lit) → is_harmless (vExpr.Lit it) ≡ true
lit it = harms (Expr-F.Lit it) _ true (vExpr.rolls-Lit it) refl

-- ---- primary expressions
module _ (x : List ℕ) (ts : List Token) (r : Range) where
  pub harms_ident : (o : Option Token) → Tells is_harmless (primary.ident x o) true
  unfolding primary.ident
  harms_ident o =
      tells_map is_harmless true o (λ t. vExpr.Ident (ident_of x t)) (λ t.
      harms (Expr-F.Expr::Ident (ident_of x t)) _ true (vExpr.rolls-Ident (ident_of x t)) refl)

  pub harms_str : (o : Option Token) → Tells is_harmless (primary.str x o) true
  unfolding primary.str
  harms_str o =
      tells_map is_harmless true o (λ t. vExpr.Lit (vLit.Str (str_of x t))) (λ t. lit (vLit.Str (str_of x t)))

  pub harms_number : (o : Option Token) → Tells is_harmless (primary.number x o) true
  unfolding primary.number
  harms_number o = tells_map is_harmless true (given o (numeric_of x)) vExpr.Lit (λ it. lit it)

  pub harms_regexp : (o : Option Token) → Tells is_harmless (primary.regexp x o) true
  unfolding primary.regexp
  harms_regexp o =
      tells_map is_harmless true o (λ t. vExpr.Lit (vLit.Regex (regex_of x t))) (λ t. lit (vLit.Regex (regex_of x t)))

  pub harms_template : (o : Option Token) → Tells is_harmless (primary.template x r o) false
  unfolding primary.template
  harms_template o =
      tells_map is_harmless false (given o (piece_of x)) (λ piece. vExpr.Tpl (piece ∷ []) [] r) (λ piece.
      harms (Expr-F.Tpl (piece ∷ []) [] r) _ false (vExpr.rolls-Tpl (piece ∷ []) [] r) refl)

  pub harms_template_parts : (head : Option Token) (first : Option Expr) (others : Value) (tail : Option Token)
      → Tells is_harmless (primary.template_parts x ts r head first others tail) false
  unfolding primary.template_parts
  harms_template_parts head first others tail =
      tells_given is_harmless false (given head (piece_of x)) (λ head.
      tells_given is_harmless false first (λ first.
      tells_given is_harmless false (turns (λ turn. piece_there x ts turn 0) others) (λ middles.
      tells_given is_harmless false (turns (λ turn. expr_at turn 1) others) (λ others.
      tells_given is_harmless false (given tail (piece_of x)) (λ tail.
      record {
        told = harms (Expr-F.Tpl (head ∷ (middles ++ tail ∷ [])) (first ∷ others) r) _ false
            (vExpr.rolls-Tpl (head ∷ (middles ++ tail ∷ [])) (first ∷ others) r) refl;
      })))))

  pub harms_paren : (o : Option Expr) → Tells is_harmless (primary.paren r o) false
  unfolding primary.paren
  harms_paren o =
      tells_map is_harmless false o (λ e. vExpr.Paren e r) (λ e.
      harms (Expr-F.Paren e r) _ false (vExpr.rolls-Paren e r) refl)

  pub harms_array : (from : ℕ) (v : Value) → Tells is_harmless (primary.array ts r from v) false
  unfolding primary.array
  harms_array from v =
      tells_map is_harmless false (elements vExpr.Hole expr_at ts (from + 1) v) (λ elems. vExpr.Array elems r)
      (λ elems. harms (Expr-F.Expr::Array elems r) _ false (vExpr.rolls-Array elems r) refl)

  pub harms_object : (v : Value) → Tells is_harmless (primary.object r v) true
  unfolding primary.object
  harms_object v =
      tells_map is_harmless true (turns (λ turn. prop_at turn 0) v) (λ props. vExpr.Object props r) (λ props.
      harms (Expr-F.Expr::Object props r) _ true (vExpr.rolls-Object props r) refl)

  pub harms_spread : (o : Option Expr) → Tells is_harmless (primary.spread r o) false
  unfolding primary.spread
  harms_spread o =
      tells_map is_harmless false o (λ e. vExpr.Spread e r) (λ e.
      harms (Expr-F.Expr::Spread e r) _ false (vExpr.rolls-Spread e r) refl)

-- ---- `this` and other words
module _ (r : Range) where
  by_words : (t : Token) (b : Bool) → same_kind t.kind k.ThisWord ≡ b
      → Tells is_harmless (word_of r t.kind) (if b then false else true)
  unfolding word_of
  by_words t b e =
      subst (λ (a : Bool). Tells is_harmless (if a then Some (vExpr.This r)
      else (if same_kind t.kind k.NullWord then Some (vExpr.Lit (vLit.Null r))
      else (if same_kind t.kind k.TrueWord then Some (vExpr.Lit (vLit.Bool true r))
      else (if same_kind t.kind k.FalseWord then Some (vExpr.Lit (vLit.Bool false r)) else None))))
      (if b then false else true)) (sym e)
      (go b (same_kind t.kind k.NullWord) (same_kind t.kind k.TrueWord) (same_kind t.kind k.FalseWord))
    where
      go : (a b c d : Bool)
          → Tells is_harmless (if a then Some (vExpr.This r)
          else (if b then Some (vExpr.Lit (vLit.Null r))
          else (if c then Some (vExpr.Lit (vLit.Bool true r))
          else (if d then Some (vExpr.Lit (vLit.Bool false r)) else None)))) (if a then false else true)
      go true b c d = record { told = harms (Expr-F.Expr::This r) _ false (vExpr.rolls-This r) refl }
      go false true c d = record { told = lit (vLit.Null r) }
      go false false true d = record { told = lit (vLit.Bool true r) }
      go false false false true = record { told = lit (vLit.Bool false r) }
      go false false false false = record { told = tt }

  pub harms_this : (o : Option Token) (t : Token) → Some t ≡ o → same_kind t.kind k.ThisWord ≡ true
      → Tells is_harmless (primary.word r o) false
  unfolding primary.word
  harms_this o t e is =
      subst (λ (p : Option Token). Tells is_harmless (given (option_map (λ t. t.kind) p) (word_of r)) false) e
      (by_words t true is)

  pub harms_word : (o : Option Token) (t : Token) → Some t ≡ o → same_kind t.kind k.ThisWord ≡ false
      → Tells is_harmless (primary.word r o) true
  unfolding primary.word
  harms_word o t e is =
      subst (λ (p : Option Token). Tells is_harmless (given (option_map (λ t. t.kind) p) (word_of r)) true) e
      (by_words t false is)

  pub harms_no_word : (o : Option Token) (b : Bool) → None ≡ o → Tells is_harmless (primary.word r o) b
  unfolding primary.word
  harms_no_word o b e =
      subst (λ (p : Option Token). Tells is_harmless (given (option_map (λ t. t.kind) p) (word_of r)) b) e
      (record { told = tt })

-- ---- all other expressions
by_nothing : (o : Option Expr) → All IsNothing o → Tells is_harmless o false
by_nothing None a = record { told = tt }
by_nothing (Some e) a = record { told = a.all.1 }

by_running : (o : Option Expr) → All IsRunning o → Tells is_harmless o false
by_running None a = record { told = tt }
by_running (Some e) a = record { told = a.all.harms }

by_assigning : (o : Option Expr) → All IsAssigning o → Tells is_harmless o false
by_assigning None a = record { told = tt }
by_assigning (Some e) a = record { told = a.all.harms }

module _ (x : List ℕ) (ts : List Token) (r : Range) where
  sequence_harms : (a b : Option Expr) (v : Value) → Tells is_harmless (operator.sequence r a b v) false
  unfolding operator.sequence
  sequence_harms a b v =
      tells_given is_harmless false a (λ a.
      tells_given is_harmless false b (λ b.
      tells_given is_harmless false (turns (λ turn. expr_at turn 0) v) (λ others.
      record {
        told = harms (Expr-F.Seq (a ∷ b ∷ others) r) _ false (vExpr.rolls-Seq (a ∷ b ∷ others) r) refl;
      })))

  pub operator_harms : (op : Operator) → Tells is_harmless (operator.the_operator x ts r op) false
  operator_harms (o.Prefix sign arg) = by_nothing _ (odd.is_prefix x ts r _ _)
  operator_harms (o.Postfix arg sign) = by_nothing _ (odd.is_postfix x ts r _ _)
  operator_harms (o.Unary sign arg) = by_nothing _ (odd.is_sign x ts r _ _)
  operator_harms (o.Await arg) = by_nothing _ (odd.is_await x ts r _)
  operator_harms (o.Binary left right) = by_nothing _ (odd.is_joined x ts r _ _ _ _)
  operator_harms (o.PrivateIn name right) = by_nothing _ (odd.is_private_in x ts r _ _)
  operator_harms (o.Conditional test cons alt) = by_nothing _ (odd.is_conditional x ts r _ _ _)
  operator_harms (o.Assignment left right) = by_assigning _ (odd.is_assigned x ts r _ _ _ _)
  operator_harms (o.PatternAssignment left right) = by_assigning _ (odd.is_pattern_assigned x ts r _ _)
  operator_harms (o.Yield arg) = by_nothing _ (odd.is_yield x ts r _)
  operator_harms (o.TypedBinary left turn) = by_nothing _ (odd.is_turned x ts r _ _ _)
  operator_harms (o.TypeAssertion type_ arg) = by_nothing _ (odd.is_asserted x ts r _ _)
  operator_harms (o.Sequence first second others) = sequence_harms _ _ _
  operator_harms o.Broken = record { told = tt }

  pub function_harms : (it : Function) → Tells is_harmless (fn.the_function x ts r it) false
  function_harms (f.Plain is_async parts) = by_running _ (others.fn_is _)
  function_harms (f.Typed is_async parts) = by_running _ (others.fn_is _)
  function_harms (f.Class parts) = by_nothing _ (others.class_is _)
  function_harms (f.TypedClass is_abstract parts) = by_nothing _ (others.class_is _)
  function_harms (f.NameArrow is_async param body) = by_running _ (others.named_arrow_is x ts r is_async _ _)
  function_harms (f.Arrow is_async params body) = by_running _ (others.plain_arrow_is x ts r is_async _ _)
  function_harms (f.TypedArrow is_async type_params params return_type body) =
      by_running _ (others.typed_arrow_is x ts r is_async _ _ _ _)
  function_harms f.Broken = record { told = tt }

module _ (r : Range) where
  pub harms_super : Tells is_harmless (Some (vExpr.Super r)) false
  harms_super = by_nothing _ (others.is_super r)

  pub harms_import_meta : Tells is_harmless (Some (vExpr.ImportMeta r)) false
  harms_import_meta = by_nothing _ (others.is_import_meta r)

  pub harms_new_target : Tells is_harmless (Some (vExpr.NewTarget r)) false
  harms_new_target = by_nothing _ (others.is_new_target r)

  pub harms_imported : (phase : ImportPhase) (first : Option Expr) (second : Value)
      → Tells is_harmless (call.imported r phase first second) false
  harms_imported phase first second = by_nothing _ (others.is_imported r phase first second)

  pub harms_newed : (callee : Option Expr) (args : Value) → Tells is_harmless (call.newed r callee args) false
  harms_newed callee args = by_nothing _ (others.is_newed r callee args)

  pub harms_typed_newed : (callee : Option Expr) (type_args args : Value)
      → Tells is_harmless (call.typed_newed r callee type_args args) false
  harms_typed_newed callee type_args args = by_nothing _ (others.is_typed_newed r callee type_args args)

-- ---- further parts of chains
makes_map : {A : Type 0} (B C : Expr → Type 0) (o : Option A) (make : A → Post)
    → ((a : A) (start : ℕ) (e : Expr) → B e → C (make a start e)) → Makes B C (option_map make o)
makes_map B C None make each = record { makes = tt }
makes_map B C (Some a) make each = record { makes = each a }

makes_given : {A : Type 0} (B C : Expr → Type 0) (o : Option A) {make : A → Option Post}
    → ((a : A) → Makes B C (make a)) → Makes B C (given o make)
makes_given B C None each = record { makes = tt }
makes_given B C (Some a) each = each a

member_at : (is_optional : Bool) (r : Range) (m : Bool × Ident) (start : ℕ) (e : Expr)
    → is_harmless (member_of is_optional r m start e)
    ≡ in_harmless (harmless_parts (Expr-F.Member e is_optional m.0 m.1 (from_byte start r)))
member_at is_optional r m start e =
    harms (Expr-F.Member e is_optional m.0 m.1 (from_byte start r)) _ _
    (vExpr.rolls-Member e is_optional m.0 m.1 (from_byte start r)) refl

index_at : (is_optional : Bool) (r : Range) (prop : Expr) (start : ℕ) (e : Expr)
    → is_harmless (index_of is_optional r prop start e)
    ≡ in_harmless (harmless_parts (Expr-F.Index e is_optional prop (from_byte start r)))
index_at is_optional r prop start e =
    harms (Expr-F.Index e is_optional prop (from_byte start r)) _ _
    (vExpr.rolls-Index e is_optional prop (from_byte start r)) refl

call_at : (is_optional : Bool) (r : Range) (type_args : Option TsPart) (args : List Expr) (start : ℕ) (e : Expr)
    → is_harmless (typed_call_of is_optional r type_args args start e) ≡ false
call_at is_optional r type_args args start e =
    harms (Expr-F.Call e is_optional type_args args (from_byte start r)) _ _
    (vExpr.rolls-Call e is_optional type_args args (from_byte start r)) refl

tagged_at : (r : Range) (type_args : Option TsPart) (tpl : Expr) (start : ℕ) (e : Expr)
    → is_harmless (typed_tagged_of r type_args tpl start e) ≡ false
tagged_at r type_args tpl start e =
    harms (Expr-F.TaggedTpl e type_args tpl (from_byte start r)) _ _
    (vExpr.rolls-TaggedTpl e type_args tpl (from_byte start r)) refl

pub makes_non_null : (r : Range) (before : Bool) → Makes (Harms before) (Harms false) (Some (non_null_of r))
makes_non_null r before = record {
  makes = λ start e is.
      harms (Expr-F.TsNonNull e (from_byte start r)) _ _ (vExpr.rolls-TsNonNull e (from_byte start r)) refl;
}

module _ (x : List ℕ) (ts : List Token) (r : Range) (before : Bool) where
  abbrev B : Expr → Type 0
  B = Harms before

  abbrev O : Expr → Type 0
  O = Harms false

  pub makes_member : (o : Option Token) → Makes B B (post.member x r o)
  unfolding post.member is_harmless
  makes_member o =
      makes_map B B (given o (property_of x)) (member_of false r) (λ m start e is. member_at false r m start e ∙ is)

  pub makes_index : (o : Option Expr) (b : Bool) → Tells is_harmless o b
      → Makes B (Harms (before && b)) (post.index r o)
  unfolding post.index is_harmless
  makes_index None b told = record { makes = tt }
  makes_index (Some prop) b told = record {
    makes = λ start e is.
        index_at false r prop start e ∙ (ap (λ (a : Bool). a && is_harmless prop) is
        ∙ ap (λ (a : Bool). before && a) told.told);
  }

  pub makes_call : (o : Option (List Expr)) → Makes B O (post.call r o)
  unfolding post.call
  makes_call o = makes_map B O o (call_of false r) (λ args start e is. call_at false r None args start e)

  pub makes_typed_call : (v : Value) (o : Option (List Expr)) → Makes B O (post.typed_call r v o)
  unfolding post.typed_call
  makes_typed_call v o =
      makes_given B O (option_map (λ args. option_map vPart.TypeArgs args) (optional arguments_at v)) (λ type_args.
      makes_given B O o (λ args. record { makes = λ start e is. call_at false r type_args args start e }))

  pub makes_tagged : (tpl : Option Expr) → Makes B O (post.tagged r tpl)
  unfolding post.tagged
  makes_tagged tpl = makes_map B O tpl (tagged_of r) (λ tpl start e is. tagged_at r None tpl start e)

  pub makes_typed_tagged : (v : Value) (tpl : Option Expr) → Makes B O (post.typed_tagged r v tpl)
  unfolding post.typed_tagged
  makes_typed_tagged v tpl =
      makes_given B O (option_map (λ args. option_map vPart.TypeArgs args) (optional arguments_at v)) (λ type_args.
      makes_map B O tpl (typed_tagged_of r type_args) (λ tpl start e is. tagged_at r type_args tpl start e))

  inner : (v : Value) → Makes B O (optional_inner x ts r v)
  inner (token n) =
      makes_map B O (given (token_of ts (token n)) (property_of x)) (member_of true r) (λ m start e is.
      member_at true r m start e)
  inner absent = record { makes = tt }
  inner nil = record { makes = tt }
  inner (more v vs) = record { makes = tt }
  inner (node from to m) =
      makes_map B O m.args (call_of true r) (λ args start e is. call_at true r None args start e)

  pub makes_optional : (v : Value) → Makes B O (post.optioned x ts r v)
  unfolding post.optioned
  makes_optional (node from to m) =
      makes_map B O m.expr (index_of true r) (λ prop start e is. index_at true r prop start e)
  makes_optional absent = record { makes = tt }
  makes_optional nil = record { makes = tt }
  makes_optional (token n) = record { makes = tt }
  makes_optional (more v vs) = inner v

  typed_one : (g : Value) → Makes B O (typed_call true r g)
  typed_one g =
      makes_given B O (args_part_at g 0) (λ type_args.
      makes_given B O (args_at g 1) (λ args.
      record { makes = λ start e is. call_at true r type_args args start e }))

  pub makes_typed_optional : (v : Value) → Makes B O (post.typed_optioned x ts r v)
  unfolding post.typed_optioned
  makes_typed_optional (node from to m) =
      makes_map B O m.expr (index_of true r) (λ prop start e is. index_at true r prop start e)
  makes_typed_optional absent = typed_one nil
  makes_typed_optional nil = typed_one nil
  makes_typed_optional (token n) = typed_one nil
  makes_typed_optional (more (token n) vs) =
      makes_map B O (given (token_of ts (token n)) (property_of x)) (member_of true r) (λ m start e is.
      member_at true r m start e)
  makes_typed_optional (more absent vs) = typed_one (more absent vs)
  makes_typed_optional (more nil vs) = typed_one (more nil vs)
  makes_typed_optional (more (more v us) vs) = typed_one (more (more v us) vs)
  makes_typed_optional (more (node from to m) vs) = typed_one (more (node from to m) vs)

-- ---- chains
-- if what is left makes this of what was made by now, all make it of what stood before
pub record PostsLeft (start now : Bool) (all left : Value) : Type 0 where
  pub make : (last : Bool) → AllMake (Harms now) (Harms last) (turns (λ turn. post_at turn 0) left)
      → AllMake (Harms start) (Harms last) (turns (λ turn. post_at turn 0) all)

pub posts_all : (start : Bool) (all : Value) → PostsLeft start start all all
posts_all start all = record { make = λ last a. a }

all_next : (B C D : Expr → Type 0) (o : Option Post) (os : Option (List Post)) → Makes B C o → AllMake C D os
    → AllMake B D (given o (λ a. given os (λ rest. Some (a ∷ rest))))
all_next B C D None os a b = record { make = tt }
all_next B C D (Some p) None a b = record { make = tt }
all_next B C D (Some p) (Some ps) a b =
    record { make = λ start e is. b.make start (p start e) (a.makes start e is) }

pub posts_next : (start now next : Bool) (all left v rest : Value) → left ≡ more v rest
    → PostsLeft start now all left → Makes (Harms now) (Harms next) (post_at (as_group v) 0)
    → PostsLeft start next all rest
posts_next start now next all left v rest e before a = record {
  make = λ last b.
      before.make last (subst (λ (w : Value). AllMake (Harms now) (Harms last) (turns (λ turn. post_at turn 0) w))
      (sym e) (all_next (Harms now) (Harms next) (Harms last) (post_at (as_group v) 0)
      (turns (λ turn. post_at turn 0) rest) a b));
}

pub posts_done : (start now : Bool) (all left : Value) → left ≡ nil → PostsLeft start now all left
    → AllMake (Harms start) (Harms now) (turns (λ turn. post_at turn 0) all)
posts_done start now all left e before =
    before.make now (subst (λ (w : Value). AllMake (Harms now) (Harms now) (turns (λ turn. post_at turn 0) w)) (sym e)
    (record { make = λ start e is. is }))

pub whole_chain : (r : Range) (base : Option Expr) (first : Option Post) (v : Value) (a b c : Bool)
    → Tells is_harmless base a → Makes (Harms a) (Harms b) first
    → AllMake (Harms b) (Harms c) (turns (λ turn. post_at turn 0) v)
    → Tells is_harmless (call.chained_of r base first v) c
unfolding call.chained_of
whole_chain r base first v a b c is one all = go base first (turns (λ turn. post_at turn 0) v) is one all
  where
    go : (base : Option Expr) (first : Option Post) (os : Option (List Post)) → Tells is_harmless base a
        → Makes (Harms a) (Harms b) first → AllMake (Harms b) (Harms c) os
        → Tells is_harmless (given base (λ base. given first (λ first. given os (λ others.
        Some (chained r.start base (first ∷ others)))))) c
    go None first os is one all = record { told = tt }
    go (Some e) None os is one all = record { told = tt }
    go (Some e) (Some p) None is one all = record { told = tt }
    go (Some e) (Some p) (Some ps) is one all =
        record { told = all.make r.start (p r.start e) (one.makes r.start e is.told) }
