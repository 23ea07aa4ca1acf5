-- What chains tell.
use Rattle.std.specs.Prelude.{ℕ, Bool, true, false, List, [], ◌∷◌, Option, Some, None, option_map, IfSome}
use Rattle.std.proofs.Common.{◌≡◌, refl, sym, ap, ◌∙◌}
use Rattle.dts_overloads.proofs.Laws.{or_none, or_assoc}
use Rattle.base.specs.declared.range.Range.{Range}
use Rattle.es_token.specs.declared.token.Token.{Token}
use Rattle.es_ast.specs.declared.ts.leaf.Ident.{Ident}
use Rattle.es_ast.specs.declared.ts.ts.TsPart.{TsPart}
use Rattle.es_ast.specs.declared.ast.Expr.{Expr}
use Rattle.es_lowering.specs.Value.{Value, given, part, as_group, group, typed, turns, expr_at, post_at, args_at}
use Rattle.es_lowering.specs.Value as v
use Rattle.es_lowering.specs.Texts.{token_of, property_of, property_at}
use Rattle.es_lowering.specs.Expressions.{Post, from_byte, member_of, index_of, call_of, tagged_of, optional_inner, optional_of, chained}
use Rattle.es_lowering.specs.Expressions as low
use Rattle.es_lowering.specs.TypedParts.{args_part_at}
use Rattle.es_lowering.specs.TypedExpressions.{typed_call_of, typed_call, typed_tagged_of, non_null_of, typed_optional_inner, typed_optional_of}
use Rattle.es_lowering.specs.TypedExpressions as typed_low
use Rattle.dts_overloads.specs.Among.{none, ◌∪◌, all_of, Among, of_expr}
use Rattle.dts_overloads.proofs.Equations as laws
use Rattle.dts_overloads.specs.declared.shapes.Group.TheVariants as gr
use Rattle.dts_overloads.specs.declared.shapes.Shape.TheVariants as sh
use Rattle.dts_overloads.specs.Met.{Told, both, Met, absent, nil, more, token, node, nothing, one, loose, rows, each, met}
use Rattle.dts_overloads.proofs.Seen.{Sees, both_none, none_both, both_told}
use Rattle.dts_overloads.proofs.Agrees.{AddsAfter, SeesPost, Agree, first, nth, read, parts, parts_in, rows_are, met_nothing, met_done}
use Rattle.dts_overloads.proofs.Roles.{AgreeRow, inside, expr, args}

-- ---- further parts
nothing_seen : {A : Type 0} (o : Option A) → Sees (λ (a : A). none) o (Some none)
nothing_seen None = record { sees = tt }
nothing_seen (Some a) = record { sees = refl }

module _ {A : Type 0} (f : A → Among) (make : A → Post)
    (same : (a : A) (start : ℕ) (e : Expr)
    → of_expr (make a start e) ≡ of_expr e ∪ f a) where
  post_by : (o : Option A) (m : Told) → Sees f o m → SeesPost (option_map make o) m
  post_by None m s = record { sees = tt }
  post_by (Some a) m s = record { sees = record { among = f a; is = s.sees; all = λ start e. same a start e } }

  post_given : (o : Option A) (m : Told) → Sees f o m → SeesPost (given o (λ a. Some (make a))) m
  post_given None m s = record { sees = tt }
  post_given (Some a) m s = record { sees = record { among = f a; is = s.sees; all = λ start e. same a start e } }

pub post_moved : (o : Option Post) (m n : Told) → m ≡ n → SeesPost o n → SeesPost o m
post_moved None m n e s = record { sees = tt }
post_moved (Some post) m n e s = record {
  sees = record { among = s.sees.among; is = e ∙ s.sees.is; all = s.sees.all };
}

post_skipped : {B : Type 0} (o : Option B) (k : B → Option Post) (m : Told) → ((b : B) → SeesPost (k b) m)
    → SeesPost (given o k) m
post_skipped None k m s = record { sees = tt }
post_skipped (Some b) k m s = s b

-- ---- by their forms
member_same : (b : Bool) (r : Range) (m : Bool × Ident) (start : ℕ) (e : Expr)
    → of_expr (member_of b r m start e) ≡ of_expr e ∪ none
member_same b r m start e = laws.expr_Member e b m.0 m.1 _ ∙ sym (or_none (of_expr e))

index_same : (b : Bool) (r : Range) (i : Expr) (start : ℕ) (e : Expr)
    → of_expr (index_of b r i start e) ≡ of_expr e ∪ of_expr i
index_same b r i start e = laws.expr_Index e b i _

call_same : (b : Bool) (r : Range) (types : Option TsPart) (args : List Expr) (start : ℕ) (e : Expr)
    → of_expr (typed_call_of b r types args start e) ≡ of_expr e ∪ all_of of_expr args
call_same b r types args start e = laws.expr_Call e b types args _

tagged_same : (r : Range) (types : Option TsPart) (tpl : Expr) (start : ℕ) (e : Expr)
    → of_expr (typed_tagged_of r types tpl start e) ≡ of_expr e ∪ of_expr tpl
tagged_same r types tpl start e = laws.expr_TaggedTpl e types tpl _

non_null_same : (r : Range) (start : ℕ) (e : Expr) → of_expr (non_null_of r start e) ≡ of_expr e ∪ none
non_null_same r start e = laws.expr_TsNonNull e _ ∙ sym (or_none (of_expr e))

name_post : (b : Bool) (r : Range) (o : Option (Bool × Ident)) → SeesPost (option_map (member_of b r) o) (Some none)
name_post b r o = post_by (λ m. none) (member_of b r) (member_same b r) o (Some none) (nothing_seen o)

index_by : (b : Bool) (r : Range) (o : Option Expr) (m : Told) → Sees of_expr o m
    → SeesPost (option_map (index_of b r) o) m
index_by b r o m s = post_by of_expr (index_of b r) (index_same b r) o m s

call_by : (b : Bool) (r : Range) (o : Option (List Expr)) (m : Told) → Sees (all_of of_expr) o m
    → SeesPost (option_map (call_of b r) o) m
call_by b r o m s = post_by (all_of of_expr) (call_of b r) (call_same b r None) o m s

typed_call_by : (b : Bool) (r : Range) (types : Option TsPart) (o : Option (List Expr)) (m : Told)
    → Sees (all_of of_expr) o m → SeesPost (given o (λ args. Some (typed_call_of b r types args))) m
typed_call_by b r types o m s =
    post_given (all_of of_expr) (typed_call_of b r types) (call_same b r types) o m s

module _ (x : List ℕ) (ts : List Token) (r : Range) where
  -- what stands behind `?.` in a group
  inner_sees : (u : Value) (w : Met) → Agree u w → SeesPost (optional_inner x ts r u) (met w one)
  inner_sees (v.token n) token a = name_post true r (given (token_of ts (v.token n)) (property_of x))
  inner_sees (v.node from to m) (node told) a = call_by true r m.args told a.args
  inner_sees v.absent w a = record { sees = tt }
  inner_sees v.nil w a = record { sees = tt }
  inner_sees (v.more b bs) w a = record { sees = tt }
  inner_sees (v.token n) _ a = absurd a
  inner_sees (v.node from to m) _ a = absurd a

  optional_sees : (u : Value) (w : Met) → Agree u w
      → SeesPost (optional_of x ts r u) (met w (loose (sh.Node ∷ [])))
  optional_sees (v.node from to m) (node told) a = index_by true r m.expr told a.expr
  optional_sees (v.more b bs) (more c cs) a =
      post_moved _ _ _ (ap (both (met c one)) (met_done cs) ∙ both_none (met c one)) (inner_sees b c a.0)
  optional_sees v.absent absent a = record { sees = tt }
  optional_sees v.nil nil a = record { sees = tt }
  optional_sees (v.token n) token a = record { sees = tt }
  optional_sees _ _ a = absurd a

  -- the same of TypeScript
  typed_args : (b bs : Value) (cs : Met) → Agree bs cs
      → SeesPost (typed_call true r (v.more b bs)) (met cs (rows (sh.Node ∷ [])))
  typed_args b bs cs a =
      post_moved _ _ _ (rows_are (sh.Node ∷ []) refl cs ∙ both_none (met (first cs) one))
      (post_skipped (args_part_at (v.more b bs) 0) _ _ (λ types.
      typed_call_by true r types (args_at bs 0) _ (args bs cs (parts bs cs a) 0)))

  typed_inner : (b bs : Value) (c cs : Met) → Agree (v.more b bs) (more c cs)
      → SeesPost (typed_optional_inner x ts r (v.more b bs)) (met (more c cs) (loose (sh.Word ∷ sh.Node ∷ [])))
  typed_inner (v.token n) bs token cs a =
      post_moved _ _ _ (none_both (met cs nothing) ∙ met_nothing cs)
      (name_post true r (given (token_of ts (v.token n)) (property_of x)))
  typed_inner v.absent bs absent cs a = post_moved _ _ _ (none_both _) (typed_args v.absent bs cs a.1)
  typed_inner v.nil bs nil cs a = post_moved _ _ _ (none_both _) (typed_args v.nil bs cs a.1)
  typed_inner (v.more d ds) bs (more e es) cs a =
      post_moved _ _ _ (ap (λ (z : Told). both z (met cs (rows (sh.Node ∷ [])))) (met_nothing (more e es))
      ∙ none_both _)
      (typed_args (v.more d ds) bs cs a.1)
  typed_inner (v.node from to m) bs (node told) cs a =
      post_moved _ _ _ (none_both _) (typed_args (v.node from to m) bs cs a.1)
  typed_inner _ bs _ cs a = absurd a.0

  typed_optional_sees : (u : Value) (w : Met) → Agree u w
      → SeesPost (typed_optional_of x ts r u) (met w (loose (sh.Word ∷ sh.Node ∷ [])))
  typed_optional_sees (v.node from to m) (node told) a = index_by true r m.expr told a.expr
  typed_optional_sees (v.more b bs) (more c cs) a = typed_inner b bs c cs a
  typed_optional_sees v.absent absent a = record { sees = tt }
  typed_optional_sees v.nil nil a = record { sees = tt }
  typed_optional_sees (v.token n) token a = record { sees = tt }
  typed_optional_sees _ _ a = absurd a

module _ (x : List ℕ) (ts : List Token) (p : Value) (q : Met) (a : AgreeRow p q) (r : Range) where
  pub member_post : SeesPost (low.member_post x ts r p) (Some none)
  unfolding low.member_post
  member_post = name_post false r (property_at x ts p 0)

  pub index_post : SeesPost (low.index_post r p) (read q (sh.Node ∷ []))
  unfolding low.index_post
  index_post = post_moved _ _ _ (both_none _) (index_by false r (expr_at p 0) _ (expr p q a 0))

  pub call_post : SeesPost (low.call_post r p) (read q (sh.Node ∷ []))
  unfolding low.call_post
  call_post = post_moved _ _ _ (both_none _) (call_by false r (args_at p 0) _ (args p q a 0))

  pub template_post : SeesPost (low.template_post r p) (read q (sh.Node ∷ []))
  unfolding low.template_post
  template_post =
      post_moved _ _ _ (both_none _)
      (post_by of_expr (tagged_of r) (tagged_same r None) (expr_at p 0) _ (expr p q a 0))

  pub optional_post : SeesPost (low.optional_post x ts r p) (read q (sh.In gr.Optional ∷ []))
  unfolding low.optional_post
  optional_post =
      post_moved _ _ _
      (both_none _ ∙ rows_are (sh.Loose gr.First ∷ []) refl (nth q 0) ∙ both_none _)
      (optional_sees x ts r (part (group p 0) 0) (nth (nth q 0) 0) (inside p q a 0 0))

  pub typed_call_post : SeesPost (typed_low.typed_call_post r p) (read q (sh.Skip ∷ sh.Node ∷ []))
  unfolding typed_low.typed_call_post
  typed_call_post =
      post_moved _ _ _ (both_none _)
      (post_skipped (args_part_at p 0) _ _ (λ types. typed_call_by false r types (args_at p 1) _ (args p q a 1)))

  pub typed_template_post : SeesPost (typed_low.typed_template_post r p) (read q (sh.Skip ∷ sh.Node ∷ []))
  unfolding typed_low.typed_template_post
  typed_template_post =
      post_moved _ _ _ (both_none _)
      (post_skipped (args_part_at p 0) _ _ (λ types.
      post_by of_expr (typed_tagged_of r types) (tagged_same r types) (expr_at p 1) _ (expr p q a 1)))

  pub typed_optional_post : SeesPost (typed_low.typed_optional_post x ts r p) (read q (sh.In gr.TypedOptional ∷ []))
  unfolding typed_low.typed_optional_post
  typed_optional_post =
      post_moved _ _ _
      (both_none _ ∙ rows_are (sh.Loose gr.Call ∷ []) refl (nth q 0) ∙ both_none _)
      (typed_optional_sees x ts r (part (group p 0) 0) (nth (nth q 0) 0) (inside p q a 0 0))

  pub non_null_post : SeesPost (typed_low.non_null_post r) (Some none)
  unfolding typed_low.non_null_post
  non_null_post = record { sees = record { among = none; is = refl; all = λ start e. non_null_same r start e } }

-- ---- several further parts
pub record AllAfter (told : Told) (posts : List Post) : Type 0 where
  pub among : Among
  pub is : told ≡ Some among
  pub all : (start : ℕ) (e : Expr)
      → of_expr (chained start e posts) ≡ of_expr e ∪ among

pub record SeesPosts (part : Option (List Post)) (told : Told) : Type 0 where
  pub sees : IfSome part (λ posts. AllAfter told posts)

after_more : (post : Post) (posts : List Post) (m n : Told) → AddsAfter m post → AllAfter n posts
    → AllAfter (both m n) (post ∷ posts)
after_more post posts m n s t = record {
  among = s.among ∪ t.among;
  is = both_told m n s.among t.among s.is t.is;
  all = λ start e.
      t.all start (post start e) ∙ ap (λ (z : Among). z ∪ t.among) (s.all start e)
      ∙ or_assoc (of_expr e) s.among t.among;
}

more_posts : (o : Option Post) (os : Option (List Post)) (m n : Told) → SeesPost o m → SeesPosts os n
    → SeesPosts (given o (λ post. given os (λ rest. Some (post ∷ rest)))) (both m n)
more_posts None os m n s t = record { sees = tt }
more_posts (Some post) None m n s t = record { sees = tt }
more_posts (Some post) (Some posts) m n s t = record { sees = after_more post posts m n s.sees t.sees }

no_posts : SeesPosts (Some []) (Some none)
no_posts = record {
  sees = record { among = none; is = refl; all = λ start e. sym (or_none (of_expr e)) };
}

post_in : (u : Value) (w : Met) → Agree u w → SeesPost (given (typed u) (λ m. m.post)) (met w one)
post_in (v.node from to m) (node told) a = a.post
post_in v.absent w a = record { sees = tt }
post_in v.nil w a = record { sees = tt }
post_in (v.token n) w a = record { sees = tt }
post_in (v.more b bs) w a = record { sees = tt }
post_in (v.node from to m) _ a = absurd a

posts_see : (u : Value) (w : Met) → Agree u w
    → SeesPosts (turns (λ turn. post_at turn 0) u) (met w (each (sh.Node ∷ [])))
posts_see (v.more b bs) (more c cs) a =
    more_posts _ _ _ _
    (post_moved _ _ _ (rows_are (sh.Node ∷ []) refl c ∙ both_none (met (first c) one))
    (post_in (part (as_group b) 0) (first c) (parts_in b c a.0 0))) (posts_see bs cs a.1)
posts_see v.absent absent a = no_posts
posts_see v.nil nil a = no_posts
posts_see (v.token n) token a = no_posts
posts_see (v.node from to m) (node told) a = no_posts
posts_see _ _ a = absurd a

posts_in : (u : Value) (w : Met) → Agree u w
    → SeesPosts (turns (λ turn. post_at turn 0) (as_group u)) (met w (each (sh.Node ∷ [])))
posts_in (v.more b bs) (more c cs) a = posts_see (v.more b bs) (more c cs) a
posts_in v.absent absent a = no_posts
posts_in v.nil nil a = no_posts
posts_in (v.token n) token a = no_posts
posts_in (v.node from to m) (node told) a = no_posts
posts_in _ _ a = absurd a

-- ---- a chain
chain_by : (start : ℕ) (base : Option Expr) (post : Option Post) (posts : Option (List Post)) (m0 m1 m2 : Told)
    → Sees of_expr base m0 → SeesPost post m1 → SeesPosts posts m2
    → Sees of_expr (given base (λ base. given post (λ first. given posts (λ others.
    Some (chained start base (first ∷ others)))))) (both m0 (both m1 (both m2 (Some none))))
chain_by start None post posts m0 m1 m2 s t u = record { sees = tt }
chain_by start (Some base) None posts m0 m1 m2 s t u = record { sees = tt }
chain_by start (Some base) (Some post) None m0 m1 m2 s t u = record { sees = tt }
chain_by start (Some base) (Some post) (Some posts) m0 m1 m2 s t u =
    let after = after_more post posts m1 m2 t.sees u.sees in
    record {
      sees = ap (λ (z : Told). both m0 (both m1 z)) (both_none m2)
          ∙ both_told m0 (both m1 m2) (of_expr base) after.among s.sees after.is ∙ ap Some (sym (after.all start base));
    }

pub chain_form : (p : Value) (q : Met) → AgreeRow p q → (r : Range)
    → Sees of_expr (low.chain r p) (read q (sh.Node ∷ sh.Node ∷ sh.Each gr.First ∷ []))
unfolding low.chain
chain_form p q a r =
    chain_by r.start (expr_at p 0) (post_at p 1) (turns (λ turn. post_at turn 0) (group p 2)) _ _ _ (expr p q a 0)
    (post_in (part p 1) (nth q 1) (a 1)) (posts_in (part p 2) (nth q 2) (a 2))
