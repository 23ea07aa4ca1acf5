-- What each further part of a chain makes.
use Rattle.std.specs.Prelude.{ℕ, Bool, true, false, List, [], ◌∷◌, Option, Some, None, option_map, map, if◌then◌else◌}
use Rattle.std.proofs.Common.{◌≡◌, refl, sym, ap, subst, ◌∙◌}
use Rattle.base.specs.declared.range.Range.{Range}
use Rattle.es_token.specs.declared.token.Token.{Token}
use Rattle.es_token.specs.declared.token.TokenKind.TheVariants as k
use Rattle.grammar_theory.specs.Key.{same_kind}
use Rattle.es_ast.specs.declared.ts.leaf.Ident.{Ident}
use Rattle.es_ast.specs.declared.ts.ts.TsPart.{TsPart}
use Rattle.es_ast.specs.declared.ts.ts.TsPart.TheVariants as vPart
use Rattle.es_ast.specs.declared.ast.Expr.{Expr}
use Rattle.es_ast.specs.declared.ast.Expr.TheVariants as vExpr
use Rattle.es_ast.specs.declared.ast.ClassMember.TheOpen.{Expr-F}
use Rattle.es_lowering.specs.Value.{Value, absent, nil, more, token, node, given, as_group, turns, optional, arguments_at, args_at, post_at}
use Rattle.es_lowering.specs.Texts.{ident_of, private_of, property_of, token_of}
use Rattle.es_lowering.specs.Expressions.{Post, chained, from_byte, member_of, index_of, call_of, tagged_of, optional_inner}
use Rattle.es_lowering.specs.TypedExpressions.{typed_call_of, typed_tagged_of, typed_call, non_null_of}
use Rattle.es_lowering.specs.TypedParts.{args_part_at}
use Rattle.es_view_expressions.specs.call.Post as post
use Rattle.es_view_expressions.specs.call.Call.{chained_of}
use Rattle.cjs_facts.specs.Looks.{Look, member, other, object_of, dot, dotted, bracket, call_of as called, look}
use Rattle.cjs_looks.specs.Odd.{All, Looks, Linked}
use Rattle.cjs_looks.specs.Posts.{Makes, AllMake}
use Rattle.cjs_looks.specs.Seen.{Tells, name_of}
use Rattle.cjs_looks.proofs.Odd.{plain}

makes_map : {A : Type 0} (B C : Expr → Type 0) (o : Option A) (make : A → Post)
    → ((a : A) (start : ℕ) (e : Expr) → B e → C (make a start e)) → Makes B C (option_map make o)
makes_map B C None make each = record { makes = tt }
makes_map B C (Some a) make each = record { makes = each a }

makes_given : {A : Type 0} (B C : Expr → Type 0) (o : Option A) {make : A → Option Post}
    → ((a : A) → Makes B C (make a)) → Makes B C (given o make)
makes_given B C None each = record { makes = tt }
makes_given B C (Some a) each = each a

-- ---- parts without `?.`
pub member_link : (r : Range) (is_private : Bool) (name : Ident) (before : Look) (start : ℕ) (e : Expr)
    → Looks before e → Linked (member (object_of before) (dot is_private name.sym))
    (member_of false r (is_private, name) start e)
unfolding look
member_link r is_private name before start e is =
    plain (Expr-F.Member e false is_private name (from_byte start r)) _ _
    (vExpr.rolls-Member e false is_private name (from_byte start r))
    (ap (λ (l : Look). member (object_of l) (dot is_private name.sym)) is) refl refl refl refl

pub index_link : (r : Range) (prop : Expr) (before inner : Look) (start : ℕ) (e : Expr) → look prop ≡ inner
    → Looks before e → Linked (member (object_of before) (bracket inner)) (index_of false r prop start e)
unfolding look
index_link r prop before inner start e has is =
    plain (Expr-F.Index e false prop (from_byte start r)) _ _ (vExpr.rolls-Index e false prop (from_byte start r))
    (ap (λ (l : Look). member (object_of l) (bracket (look prop))) is
    ∙ ap (λ (l : Look). member (object_of before) (bracket l)) has) refl refl refl refl

pub call_link : (r : Range) (type_args : Option TsPart) (args : List Expr) (before : Look) (start : ℕ) (e : Expr)
    → Looks before e → Linked (called before (map look args)) (typed_call_of false r type_args args start e)
unfolding look
call_link r type_args args before start e is =
    plain (Expr-F.Call e false type_args args (from_byte start r)) _ _
    (vExpr.rolls-Call e false type_args args (from_byte start r))
    (ap (λ (l : Look). called l (map look args)) is) refl refl refl refl

-- ---- the others look like nothing
pub tagged_link : (r : Range) (type_args : Option TsPart) (tpl : Expr) (before : Look) (start : ℕ) (e : Expr)
    → Looks before e → Linked other (typed_tagged_of r type_args tpl start e)
tagged_link r type_args tpl before start e is =
    plain (Expr-F.TaggedTpl e type_args tpl (from_byte start r)) _ _
    (vExpr.rolls-TaggedTpl e type_args tpl (from_byte start r)) refl refl refl refl refl

pub non_null_link : (r : Range) (before : Look) (start : ℕ) (e : Expr) → Looks before e
    → Linked other (non_null_of r start e)
non_null_link r before start e is =
    plain (Expr-F.TsNonNull e (from_byte start r)) _ _ (vExpr.rolls-TsNonNull e (from_byte start r)) refl refl refl
    refl refl

optional_member : (r : Range) (m : Bool × Ident) (before : Look) (start : ℕ) (e : Expr) → Looks before e
    → Linked other (member_of true r m start e)
optional_member r m before start e is =
    plain (Expr-F.Member e true m.0 m.1 (from_byte start r)) _ _
    (vExpr.rolls-Member e true m.0 m.1 (from_byte start r)) refl refl refl refl refl

optional_index : (r : Range) (prop : Expr) (before : Look) (start : ℕ) (e : Expr) → Looks before e
    → Linked other (index_of true r prop start e)
optional_index r prop before start e is =
    plain (Expr-F.Index e true prop (from_byte start r)) _ _ (vExpr.rolls-Index e true prop (from_byte start r)) refl
    refl refl refl refl

optional_call : (r : Range) (type_args : Option TsPart) (args : List Expr) (before : Look) (start : ℕ) (e : Expr)
    → Looks before e → Linked other (typed_call_of true r type_args args start e)
optional_call r type_args args before start e is =
    plain (Expr-F.Call e true type_args args (from_byte start r)) _ _
    (vExpr.rolls-Call e true type_args args (from_byte start r)) refl refl refl refl refl

pub makes_non_null : (r : Range) (before : Look) → Makes (Looks before) (Linked other) (Some (non_null_of r))
makes_non_null r before = record { makes = λ start e is. non_null_link r before start e is }

-- ---- the forms of views
module _ (x : List ℕ) (ts : List Token) (r : Range) (before : Look) where
  abbrev B : Expr → Type 0
  B = Looks before

  abbrev O : Expr → Type 0
  O = Linked other

  pub makes_tagged : (tpl : Option Expr) → Makes B O (post.tagged r tpl)
  unfolding post.tagged
  makes_tagged tpl = makes_map B O tpl (tagged_of r) (λ tpl start e is. tagged_link r None tpl before start e is)

  pub makes_typed_tagged : (v : Value) (tpl : Option Expr) → Makes B O (post.typed_tagged r v tpl)
  unfolding post.typed_tagged
  makes_typed_tagged v tpl =
      makes_given B O (option_map (λ args. option_map vPart.TypeArgs args) (optional arguments_at v)) (λ type_args.
      makes_map B O tpl (typed_tagged_of r type_args) (λ tpl start e is.
      tagged_link r type_args tpl before start e is))

  inner : (v : Value) → Makes B O (optional_inner x ts r v)
  inner (token n) =
      makes_map B O (given (token_of ts (token n)) (property_of x)) (member_of true r) (λ m start e is.
      optional_member r m before start e is)
  inner absent = record { makes = tt }
  inner nil = record { makes = tt }
  inner (more v vs) = record { makes = tt }
  inner (node from to m) =
      makes_map B O m.args (call_of true r) (λ args start e is. optional_call r None args before start e is)

  pub makes_optional : (v : Value) → Makes B O (post.optioned x ts r v)
  unfolding post.optioned
  makes_optional (node from to m) =
      makes_map B O m.expr (index_of true r) (λ prop start e is. optional_index r prop before start e is)
  makes_optional absent = record { makes = tt }
  makes_optional nil = record { makes = tt }
  makes_optional (token n) = record { makes = tt }
  makes_optional (more v vs) = inner v

  typed_one : (g : Value) → Makes B O (typed_call true r g)
  typed_one g =
      makes_given B O (args_part_at g 0) (λ type_args.
      makes_given B O (args_at g 1) (λ args.
      record { makes = λ start e is. optional_call r type_args args before start e is }))

  pub makes_typed_optional : (v : Value) → Makes B O (post.typed_optioned x ts r v)
  unfolding post.typed_optioned
  makes_typed_optional (node from to m) =
      makes_map B O m.expr (index_of true r) (λ prop start e is. optional_index r prop before start e is)
  makes_typed_optional absent = typed_one nil
  makes_typed_optional nil = typed_one nil
  makes_typed_optional (token n) = typed_one nil
  makes_typed_optional (more (token n) vs) =
      makes_map B O (given (token_of ts (token n)) (property_of x)) (member_of true r) (λ m start e is.
      optional_member r m before start e is)
  makes_typed_optional (more absent vs) = typed_one (more absent vs)
  makes_typed_optional (more nil vs) = typed_one (more nil vs)
  makes_typed_optional (more (more v us) vs) = typed_one (more (more v us) vs)
  makes_typed_optional (more (node from to m) vs) = typed_one (more (node from to m) vs)

  -- a name behind a dot
  named_by : (t : Token)
      → Makes B (Linked (member (object_of before)
      (if same_kind t.kind k.PrivateName then dot true (ident_of x t).sym else dot false (ident_of x t).sym)))
      (option_map (member_of false r) (property_of x t))
  unfolding property_of
  named_by t = go (same_kind t.kind k.PrivateName)
    where
      go : (b : Bool) → Makes B
          (Linked (member (object_of before) (if b then dot true (ident_of x t).sym else dot false (ident_of x t).sym)))
          (option_map (member_of false r)
          (if b then option_map (λ name. (true, name)) (private_of x t) else Some (false, ident_of x t)))
      go false = record { makes = λ start e is. member_link r false (ident_of x t) before start e is }
      go true = private (private_of x t)
        where
          private : (o : Option Ident) → Makes B (Linked (member (object_of before) (dot true (ident_of x t).sym)))
              (option_map (member_of false r) (option_map (λ name. (true, name)) o))
          private None = record { makes = tt }
          private (Some name) = record { makes = λ start e is. member_link r true name before start e is }

  pub makes_private : (o : Option Token) (t : Token) → o ≡ Some t → same_kind t.kind k.PrivateName ≡ true
      → Makes B (Linked (member (object_of before) (dot true []))) (post.member x r o)
  unfolding post.member
  makes_private o t e is =
      subst (λ (p : Option Token). Makes B (Linked (member (object_of before) (dot true [])))
      (option_map (member_of false r) (given p (property_of x))))
      (sym e) (subst (λ (b : Bool). Makes B
      (Linked (member (object_of before)
      (if b then dot true (ident_of x t).sym else dot false (ident_of x t).sym)))
      (option_map (member_of false r) (property_of x t))) is (named_by t))

  pub makes_dotted : (o : Option Token) (t : Token) → o ≡ Some t → same_kind t.kind k.PrivateName ≡ false
      → Makes B (Linked (member (object_of before) (dotted (name_of x o)))) (post.member x r o)
  unfolding post.member
  makes_dotted o t e is =
      subst (λ (p : Option Token). Makes B (Linked (member (object_of before) (dotted (name_of x p))))
      (option_map (member_of false r) (given p (property_of x))))
      (sym e) (subst (λ (b : Bool). Makes B
      (Linked (member (object_of before)
      (if b then dot true (ident_of x t).sym else dot false (ident_of x t).sym)))
      (option_map (member_of false r) (property_of x t))) is (named_by t))

  pub makes_no_token : (o : Option Token) (l : Look) → o ≡ None → Makes B (Linked l) (post.member x r o)
  unfolding post.member
  makes_no_token o l e =
      subst (λ (p : Option Token). Makes B (Linked l) (option_map (member_of false r) (given p (property_of x))))
      (sym e)
      (record { makes = tt })

  pub makes_index : (o : Option Expr) (l : Look) → Tells look o l
      → Makes B (Linked (member (object_of before) (bracket l))) (post.index r o)
  unfolding post.index
  makes_index None l told = record { makes = tt }
  makes_index (Some prop) l told =
      record { makes = λ start e is. index_link r prop before l start e told.told is }

  pub makes_call : (o : Option (List Expr)) (l : Look) → Tells (λ args. called before (map look args)) o l
      → Makes B (Linked l) (post.call r o)
  unfolding post.call
  makes_call None l told = record { makes = tt }
  makes_call (Some args) l told = record {
    makes = λ start e is.
        subst (λ (m : Look). Linked m (call_of false r args start e)) told.told
        (call_link r None args before start e is);
  }

  pub makes_typed_call : (v : Value) (o : Option (List Expr)) (l : Look)
      → Tells (λ args. called before (map look args)) o l → Makes B (Linked l) (post.typed_call r v o)
  unfolding post.typed_call
  makes_typed_call v None l told =
      makes_given B (Linked l) (option_map (λ args. option_map vPart.TypeArgs args) (optional arguments_at v))
      (λ type_args. record { makes = tt })
  makes_typed_call v (Some args) l told =
      makes_given B (Linked l) (option_map (λ args. option_map vPart.TypeArgs args) (optional arguments_at v))
      (λ type_args. record {
        makes = λ start e is.
            subst (λ (m : Look). Linked m (typed_call_of false r type_args args start e)) told.told
            (call_link r type_args args before start e is);
      })

-- ---- chains
-- if what is left makes this of what was made by now, all make it of what stood before
pub record PostsLeft (start now : Look) (all left : Value) : Type 0 where
  pub make : (next : Look) → AllMake (Linked now) (Linked next) (turns (λ turn. post_at turn 0) left)
      → AllMake (Linked start) (Linked next) (turns (λ turn. post_at turn 0) all)

pub posts_all : (start : Look) (all : Value) → PostsLeft start start all all
posts_all start all = record { make = λ last a. a }

all_next : (B C D : Expr → Type 0) (o : Option Post) (os : Option (List Post)) → Makes B C o → AllMake C D os
    → AllMake B D (given o (λ a. given os (λ rest. Some (a ∷ rest))))
all_next B C D None os a b = record { make = tt }
all_next B C D (Some p) None a b = record { make = tt }
all_next B C D (Some p) (Some ps) a b = record { make = λ start e is. b.make start (p start e) (a.makes start e is) }

weaker : (l : Look) (C : Expr → Type 0) (o : Option Post) → Makes (Looks l) C o → Makes (Linked l) C o
weaker l C None a = record { makes = tt }
weaker l C (Some p) a = record { makes = λ start e is. a.makes start e is.0 }

pub posts_next : (start now next : Look) (all left v rest : Value) → left ≡ more v rest
    → PostsLeft start now all left → Makes (Looks now) (Linked next) (post_at (as_group v) 0)
    → PostsLeft start next all rest
posts_next start now next all left v rest e before a = record {
  make = λ last b.
      before.make last (subst (λ (w : Value). AllMake (Linked now) (Linked last) (turns (λ turn. post_at turn 0) w))
      (sym e) (all_next (Linked now) (Linked next) (Linked last) (post_at (as_group v) 0)
      (turns (λ turn. post_at turn 0) rest) (weaker now (Linked next) (post_at (as_group v) 0) a) b));
}

pub posts_done : (start now : Look) (all left : Value) → left ≡ nil → PostsLeft start now all left
    → AllMake (Linked start) (Linked now) (turns (λ turn. post_at turn 0) all)
posts_done start now all left e before =
    before.make now
    (subst (λ (w : Value). AllMake (Linked now) (Linked now) (turns (λ turn. post_at turn 0) w)) (sym e)
    (record { make = λ start e is. is }))

-- ---- the whole chain
pub whole_chain : (r : Range) (base : Option Expr) (first : Option Post) (v : Value) (a b c : Look)
    → Tells look base a → Makes (Looks a) (Linked b) first
    → AllMake (Linked b) (Linked c) (turns (λ turn. post_at turn 0) v) → All (Linked c) (chained_of r base first v)
unfolding chained_of
whole_chain r base first v a b c is one all = go base first (turns (λ turn. post_at turn 0) v) is one all
  where
    go : (base : Option Expr) (first : Option Post) (os : Option (List Post)) → Tells look base a
        → Makes (Looks a) (Linked b) first → AllMake (Linked b) (Linked c) os
        → All (Linked c) (given base
        (λ base. given first (λ first. given os (λ others. Some (chained r.start base (first ∷ others))))))
    go None first os is one all = record { all = tt }
    go (Some e) None os is one all = record { all = tt }
    go (Some e) (Some p) None is one all = record { all = tt }
    go (Some e) (Some p) (Some ps) is one all =
        record { all = all.make r.start (p r.start e) (one.makes r.start e is.told) }
