-- Names with dots.
use Rattle.std.specs.Prelude.{ℕ, Bool, true, false, not, ◌&&◌, List, [], ◌∷◌, ◌++◌, Option, Some, None, option_map, codes, if◌then◌else◌}
use Rattle.std.proofs.Common.{◌≡◌, refl, sym, ap, subst, ◌∙◌}
use Rattle.std.proofs.lemmas.Bool.{true≢false}
use Rattle.std.specs.Prelude.{◌≢◌}
use Rattle.base.specs.declared.range.Range.{Range}
use Rattle.es_token.specs.declared.token.Token.{Token}
use Rattle.es_token.specs.declared.token.TokenKind.TheVariants as k
use Rattle.grammar_theory.specs.Key.{same_kind}
use Rattle.es_ast.specs.declared.ts.leaf.Ident.{Ident}
use Rattle.es_ast.specs.declared.ts.ts.TsPart.{TsPart}
use Rattle.es_ast.specs.declared.leaf.Lit.{Lit}
use Rattle.es_ast.specs.declared.leaf.Lit.TheVariants as vLit
use Rattle.es_ast.specs.declared.ast.Expr.{Expr}
use Rattle.es_ast.specs.declared.ast.Expr.TheVariants as vExpr
use Rattle.es_ast.specs.declared.ast.ClassMember.TheOpen.{Expr-F}
use Rattle.es_lowering.specs.Value.{Value, absent, nil, more, token, node, given, part, as_group, typed, turns, post_at, args_at, optional, arguments_at}
use Rattle.es_lowering.specs.Texts.{ident_of, private_of, property_of, token_of}
use Rattle.es_lowering.specs.Expressions.{Post, word_of, member_of, index_of, call_of, tagged_of, optional_inner, optional_of, chained}
use Rattle.es_lowering.specs.TypedParts.{args_part_at}
use Rattle.es_lowering.specs.TypedExpressions.{typed_call_of, typed_call, typed_tagged_of, non_null_of, typed_optional_inner, typed_optional_of}
use Rattle.es_view_expressions.specs.declared.call.post.Post.{Post as View}
use Rattle.es_view_expressions.specs.declared.call.post.Post.TheVariants as view
use Rattle.es_view_expressions.specs.call.Call as call
use Rattle.es_view_expressions.specs.call.Post as post
use Rattle.es_view_expressions.specs.expr.Primary as primary
use Rattle.dts_rules.specs.Ranges.{Name, path, Seen, longer, seen_expr}
use Rattle.dts_overloads.specs.declared.names.Name.TheVariants as name
use Rattle.dts_overloads.specs.Names.{spelling, is_kind, IsNoPath, IsDotted, CallsIn, HasPath, Leads, Follows, AllFollow, LeadAll}
use Rattle.dts_overloads.proofs.Keyless.{seen_by}

-- ---- of each expression
ident_path : (id : Ident) → (seen_expr (vExpr.Ident id)).path_of ≡ Some (id.sym ∷ [])
ident_path id = ap (λ (s : Seen). s.path_of) (seen_by _ (Expr-F.Expr::Ident id) (vExpr.rolls-Ident id))

this_path : (r : Range) → (seen_expr (vExpr.This r)).path_of ≡ Some (codes "this" ∷ [])
this_path r = ap (λ (s : Seen). s.path_of) (seen_by _ (Expr-F.Expr::This r) (vExpr.rolls-This r))

lit_path : (it : Lit) → (seen_expr (vExpr.Lit it)).path_of ≡ None
lit_path it = ap (λ (s : Seen). s.path_of) (seen_by _ (Expr-F.Lit it) (vExpr.rolls-Lit it))

member_path : (e : Expr) (mark hidden : Bool) (id : Ident) (r : Range)
    → (seen_expr (vExpr.Member e mark hidden id r)).path_of
    ≡ longer (not mark && not hidden) id (seen_expr e).path_of
member_path e mark hidden id r =
    ap (λ (s : Seen). s.path_of) (seen_by _ (Expr-F.Member e mark hidden id r) (vExpr.rolls-Member e mark hidden id r))

index_path : (e : Expr) (mark : Bool) (i : Expr) (r : Range) → (seen_expr (vExpr.Index e mark i r)).path_of ≡ None
index_path e mark i r =
    ap (λ (s : Seen). s.path_of) (seen_by _ (Expr-F.Index e mark i r) (vExpr.rolls-Index e mark i r))

call_path : (e : Expr) (mark : Bool) (types : Option TsPart) (args : List Expr) (r : Range)
    → (seen_expr (vExpr.Call e mark types args r)).path_of ≡ None
call_path e mark types args r =
    ap (λ (s : Seen). s.path_of) (seen_by _ (Expr-F.Call e mark types args r) (vExpr.rolls-Call e mark types args r))

tagged_path : (e : Expr) (types : Option TsPart) (tpl : Expr) (r : Range)
    → (seen_expr (vExpr.TaggedTpl e types tpl r)).path_of ≡ None
tagged_path e types tpl r =
    ap (λ (s : Seen). s.path_of) (seen_by _ (Expr-F.TaggedTpl e types tpl r) (vExpr.rolls-TaggedTpl e types tpl r))

non_null_path : (e : Expr) (r : Range) → (seen_expr (vExpr.TsNonNull e r)).path_of ≡ None
non_null_path e r = ap (λ (s : Seen). s.path_of) (seen_by _ (Expr-F.TsNonNull e r) (vExpr.rolls-TsNonNull e r))

-- ---- the first of a name with dots
pub has_same : (ns : Option (List (List ℕ))) (a b : Option Expr) → a ≡ b → HasPath ns b → HasPath ns a
has_same ns a b e h = subst (HasPath ns) (sym e) h

pub has_none : (o : Option Expr) → IsNoPath o → HasPath None o
has_none None n = record { has = tt }
has_none (Some e) n = record { has = n.is }

pub has_ident : (x : List ℕ) (o : Option Token) (t : List ℕ) → spelling x o ≡ Some t
    → HasPath (Some (t ∷ [])) (primary.ident x o)
unfolding primary.ident ident_of
has_ident x None t e = record { has = tt }
has_ident x (Some tok) t e = record { has = ident_path (ident_of x tok) ∙ ap (option_map (λ s. s ∷ [])) e }

pub has_this : (r : Range) (o : Option Token) (t : List ℕ) → is_kind k.ThisWord o ≡ true → t ≡ codes "this"
    → HasPath (Some (t ∷ [])) (primary.word r o)
unfolding primary.word word_of
has_this r None t e f = record { has = tt }
has_this r (Some tok) t e f = go (same_kind tok.kind k.ThisWord) _ e
  where
    go : (b : Bool) (o : Option Expr) → b ≡ true
        → HasPath (Some (t ∷ [])) (if b then Some (vExpr.This r) else o)
    go true o h = record { has = this_path r ∙ ap (λ s. Some (s ∷ [])) (sym f) }
    go false o h = absurd (true≢false (sym h))

pub has_other : (r : Range) (o : Option Token) → is_kind k.ThisWord o ≡ false → HasPath None (primary.word r o)
unfolding primary.word word_of
has_other r None e = record { has = tt }
has_other r (Some tok) e =
    go (same_kind tok.kind k.ThisWord) (same_kind tok.kind k.NullWord) (same_kind tok.kind k.TrueWord)
    (same_kind tok.kind k.FalseWord) e
  where
    go : (a b c d : Bool) → a ≡ false
        → HasPath None (if a then Some (vExpr.This r) else (if b then Some (vExpr.Lit (vLit.Null r))
        else (if c then Some (vExpr.Lit (vLit.Bool true r))
        else (if d then Some (vExpr.Lit (vLit.Bool false r)) else None))))
    go true b c d h = absurd (true≢false h)
    go false true c d h = record { has = lit_path _ }
    go false false true d h = record { has = lit_path _ }
    go false false false true h = record { has = lit_path _ }
    go false false false false h = record { has = tt }

-- ---- further parts
pub follows_same : (old new : Option (List (List ℕ))) (a b : Option Post) → a ≡ b → Follows old new b
    → Follows old new a
follows_same old new a b e f = subst (Follows old new) (sym e) f

abbrev with_name : Option (List (List ℕ)) → Option (List ℕ) → Option (List (List ℕ))
with_name old (Some s) = option_map (λ ns. ns ++ s ∷ []) old
with_name old None = None

pub follows_name : (x : List ℕ) (r : Range) (o : Option Token) (t : List ℕ) (old new : Option (List (List ℕ)))
    → is_kind k.PrivateName o ≡ false → spelling x o ≡ Some t → new ≡ option_map (λ ns. ns ++ t ∷ []) old
    → Follows old new (post.member x r o)
unfolding post.member property_of ident_of
follows_name x r None t old new e f g = record { follows = tt }
follows_name x r (Some tok) t old new e f g = go (same_kind tok.kind k.PrivateName) e
  where
    go : (b : Bool) → b ≡ false
        → Follows old new (option_map (member_of false r)
        (if b then option_map (λ name. (true, name)) (private_of x tok) else Some (false, ident_of x tok)))
    go true h = absurd (true≢false h)
    go false h = record {
      follows = λ start e is.
          member_path e false false (ident_of x tok) _ ∙ ap (longer true (ident_of x tok)) is
          ∙ ap (with_name old) f ∙ sym g;
    }

-- what it makes is none
follows_none : {A : Type 0} (old : Option (List (List ℕ))) (make : A → Post)
    → ((a : A) (start : ℕ) (e : Expr) → (seen_expr (make a start e)).path_of ≡ None) → (o : Option A)
    → Follows old None (option_map make o)
follows_none old make none None = record { follows = tt }
follows_none old make none (Some a) = record { follows = λ start e is. none a start e }

follows_given : {A : Type 0} (old : Option (List (List ℕ))) (o : Option A) (make : A → Option Post)
    → ((a : A) → Follows old None (make a)) → Follows old None (given o make)
follows_given old None make f = record { follows = tt }
follows_given old (Some a) make f = f a

pub follows_private : (x : List ℕ) (r : Range) (o : Option Token) (old : Option (List (List ℕ)))
    → is_kind k.PrivateName o ≡ true → Follows old None (post.member x r o)
unfolding post.member property_of
follows_private x r None old e = record { follows = tt }
follows_private x r (Some tok) old e = go (same_kind tok.kind k.PrivateName) (private_of x tok) _ e
  where
    go : (b : Bool) (o : Option Ident) (rest : Option (Bool × Ident)) → b ≡ true
        → Follows old None (option_map (member_of false r) (if b then option_map (λ name. (true, name)) o else rest))
    go true None rest h = record { follows = tt }
    go true (Some id) rest h = record { follows = λ start e is. member_path e false true id _ }
    go false o rest h = absurd (true≢false (sym h))

module _ (r : Range) (old : Option (List (List ℕ))) where
  pub follows_index : (o : Option Expr) → Follows old None (post.index r o)
  unfolding post.index
  follows_index o = follows_none old (index_of false r) (λ i start e. index_path e false i _) o

  pub follows_call : (o : Option (List Expr)) → Follows old None (post.call r o)
  unfolding post.call
  follows_call o = follows_none old (call_of false r) (λ args start e. call_path e false None args _) o

  pub follows_tagged : (o : Option Expr) → Follows old None (post.tagged r o)
  unfolding post.tagged
  follows_tagged o = follows_none old (tagged_of r) (λ tpl start e. tagged_path e None tpl _) o

  marked_index : (o : Option Expr) → Follows old None (option_map (index_of true r) o)
  marked_index o = follows_none old (index_of true r) (λ i start e. index_path e true i _) o

  marked_call : (o : Option (List Expr)) → Follows old None (option_map (call_of true r) o)
  marked_call o = follows_none old (call_of true r) (λ args start e. call_path e true None args _) o

  marked_name : (o : Option (Bool × Ident)) → Follows old None (option_map (member_of true r) o)
  marked_name o = follows_none old (member_of true r) (λ m start e. member_path e true m.0 m.1 _) o

  pub follows_optional : (x : List ℕ) (ts : List Token) (v : Value) → Follows old None (post.optioned x ts r v)
  unfolding post.optioned
  follows_optional x ts (node from to m) = marked_index m.expr
  follows_optional x ts absent = record { follows = tt }
  follows_optional x ts nil = record { follows = tt }
  follows_optional x ts (token n) = record { follows = tt }
  follows_optional x ts (more a others) = inner a
    where
      inner : (v : Value) → Follows old None (optional_inner x ts r v)
      inner (token n) = marked_name (given (token_of ts (token n)) (property_of x))
      inner absent = record { follows = tt }
      inner nil = record { follows = tt }
      inner (more b bs) = record { follows = tt }
      inner (node from to m) = marked_call m.args

  typed_called : (mark : Bool) (types : Option TsPart) (o : Option (List Expr))
      → Follows old None (given o (λ args. Some (typed_call_of mark r types args)))
  typed_called mark types None = record { follows = tt }
  typed_called mark types (Some args) = record { follows = λ start e is. call_path e mark types args _ }

  pub follows_typed_call : (v : Value) (o : Option (List Expr)) → Follows old None (post.typed_call r v o)
  unfolding post.typed_call
  follows_typed_call v o = follows_given old _ _ (λ types. typed_called false types o)

  pub follows_typed_tagged : (v : Value) (o : Option Expr) → Follows old None (post.typed_tagged r v o)
  unfolding post.typed_tagged
  follows_typed_tagged v o =
      follows_given old _ _ (λ types.
      follows_none old (typed_tagged_of r types) (λ tpl start e. tagged_path e types tpl _) o)

  typed_args : (v : Value) → Follows old None (typed_call true r v)
  typed_args v = follows_given old (args_part_at v 0) _ (λ types. typed_called true types (args_at v 1))

  pub follows_typed_optional : (x : List ℕ) (ts : List Token) (v : Value)
      → Follows old None (post.typed_optioned x ts r v)
  unfolding post.typed_optioned
  follows_typed_optional x ts (node from to m) = marked_index m.expr
  follows_typed_optional x ts absent = typed_args nil
  follows_typed_optional x ts nil = typed_args nil
  follows_typed_optional x ts (token n) = typed_args nil
  follows_typed_optional x ts (more a others) = inner a
    where
      inner : (v : Value) → Follows old None (typed_optional_inner x ts r (more v others))
      inner (token n) = marked_name (given (token_of ts (token n)) (property_of x))
      inner absent = typed_args (more absent others)
      inner nil = typed_args (more nil others)
      inner (more b bs) = typed_args (more (more b bs) others)
      inner (node from to m) = typed_args (more (node from to m) others)

  pub follows_non_null : (x : List ℕ) (ts : List Token) (v : View) → v ≡ view.NonNull
      → Follows old None (post.the_post x ts r v)
  follows_non_null x ts v is =
      subst (λ (v : View). Follows old None (post.the_post x ts r v)) (sym is)
      (record { follows = λ start e is. non_null_path e _ })

pub follows_broken : (old new : Option (List (List ℕ))) → Follows old new None
follows_broken old new = record { follows = tt }

-- ---- all further parts
abbrev all_posts : Value → Option (List Post)
all_posts v = turns (λ turn. post_at turn 0) v

-- what is left takes a name on as all do
pub record PathLeft (start now : Option (List (List ℕ))) (all left : Value) : Type 0 where
  pub goes : (final : Option (List (List ℕ))) → AllFollow now final (turns (λ turn. post_at turn 0) left)
      → AllFollow start final (turns (λ turn. post_at turn 0) all)

pub left_all : (start : Option (List (List ℕ))) (all : Value) → PathLeft start start all all
left_all start all = record { goes = λ final h. h }

all_more : (now next final : Option (List (List ℕ))) (o : Option Post) (os : Option (List Post)) → Follows now next o
    → AllFollow next final os → AllFollow now final (given o (λ p. given os (λ rest. Some (p ∷ rest))))
all_more now next final None os f h = record { follow = tt }
all_more now next final (Some p) None f h = record { follow = tt }
all_more now next final (Some p) (Some ps) f h = record {
  follow = λ start e is. h.follow start (p start e) (f.follows start e is);
}

pub left_next : (start now next : Option (List (List ℕ))) (all v a vs : Value) → v ≡ more a vs
    → PathLeft start now all v → Follows now next (post_at (as_group a) 0) → PathLeft start next all vs
left_next start now next all v a vs e before f = record {
  goes = λ final h.
      before.goes final
      (subst (λ (w : Value). AllFollow now final (all_posts w)) (sym e)
      (all_more now next final (post_at (as_group a) 0) (all_posts vs) f h));
}

pub left_done : (start now : Option (List (List ℕ))) (all v : Value) → v ≡ nil → PathLeft start now all v
    → AllFollow start now (turns (λ turn. post_at turn 0) all)
left_done start now all v e before =
    before.goes now
    (subst (λ (w : Value). AllFollow now now (all_posts w)) (sym e) (record { follow = λ start e is. is }))

-- ---- a chain
pub has_chain : (r : Range) (base : Option Expr) (first : Option Post) (row : Value)
    (a b c : Option (List (List ℕ))) → HasPath a base → Follows a b first
    → AllFollow b c (turns (λ turn. post_at turn 0) row) → HasPath c (call.chained_of r base first row)
unfolding call.chained_of
has_chain r base first row a b c h f g = go base first (all_posts row) h f g
  where
    go : (base : Option Expr) (first : Option Post) (others : Option (List Post)) → HasPath a base → Follows a b first
        → AllFollow b c others
        → HasPath c (given base (λ base. given first (λ first. given others (λ others.
        Some (chained r.start base (first ∷ others))))))
    go None first others h f g = record { has = tt }
    go (Some e) None others h f g = record { has = tt }
    go (Some e) (Some p) None h f g = record { has = tt }
    go (Some e) (Some p) (Some ps) h f g = record {
      has = g.follow r.start (p r.start e) (f.follows r.start e h.has);
    }

-- ---- as a key in brackets
pub called_path : (o : Option Expr) (ns : List (List ℕ)) → IsDotted o → HasPath (Some ns) o
    → CallsIn (Some (name.Path ns)) o
called_path None ns d h = record { calls = tt }
called_path (Some e) ns d h = record { calls = d.is ∙ ap (option_map path) h.has }

pub called_nothing : (o : Option Expr) → IsDotted o → HasPath None o → CallsIn None o
called_nothing None d h = record { calls = tt }
called_nothing (Some e) d h = record { calls = d.is ∙ ap (option_map path) h.has }
