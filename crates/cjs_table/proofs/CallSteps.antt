-- Further parts of chains: calls, and others.
use Rattle.std.specs.Prelude.{ℕ, Bool, true, false, ◌||◌, List, [], ◌∷◌, ◌++◌, map, Option, Some, None, unwrap_or, ◌⊎◌, if◌then◌else◌}
use Rattle.std.proofs.Common.{◌≡◌, refl, sym, ap, subst, ◌∙◌, inl, inr}
use Rattle.es_ast.specs.declared.ast.Expr.{Expr, out-Expr}
use Rattle.es_lowering.specs.Value.{Value, absent, part, as_group, post_at}
use Rattle.es_lowering.specs.Expressions.{Post}
use Rattle.es_syntax.specs.Roles.{post_in}
use Rattle.cjs_facts.specs.declared.found.Found.{Found}
use Rattle.cjs_facts.specs.Facts.{Called, Facts}
use Rattle.es_token.specs.declared.token.Token.{Token}
use Rattle.cjs_facts.specs.Looks.{Look, look, call_of, callee_look}
use Rattle.cjs_facts.specs.Exports.{after, is_define, is_star, defined, star, called, called_by}
use Rattle.cjs_looks.specs.declared.looks.Look.{Look as SeenLook}
use Rattle.cjs_looks.specs.Behind.{IsBehind}
use Rattle.cjs_looks.specs.Seen.{Tells, look_of}
use Rattle.cjs_looks.specs.Odd.{Looks, Linked}
use Rattle.cjs_looks.specs.Posts.{Makes}
use Rattle.cjs_calls.specs.Calls.{Makes as Adds}
use Rattle.cjs_table.specs.Facts.{called_in}
use Rattle.cjs_table.specs.declared.chain.Along.{Along}
use Rattle.cjs_table.specs.Chains.{IsCall, CallsOf, IsOnce, Spot, State, Follows, Passes, Counts, Calls, CallStep}
use Rattle.cjs_table.proofs.Given.{after_one}

-- ---- whether a call counts
no_call : (callee : Look) (args : List Expr) (f : Found) → is_define callee ≡ false → is_star callee ≡ false
    → called_by callee args f ≡ f
no_call callee args f d s =
    ap (λ (b : Bool). if b then defined args f else (if is_star callee then star args f else f)) d
    ∙ ap (λ (b : Bool). if b then star args f else f) s

neither : (a b : Bool) → (a || b) ≡ false → (a ≡ false) × (b ≡ false)
neither true b e = let bad : ⊥ = cc in absurd bad
neither false b e = (refl, e)

pub passes : (callee : Look) (args : Option (List Expr)) (counted counts : Bool) (old : Found)
    → counts ≡ (is_define callee || is_star callee) → counts ≡ false → Calls callee args counted counted old old
passes callee None counted counts old same e = record { calls = tt }
passes callee (Some args) counted counts old same e =
    let both = neither (is_define callee) (is_star callee) (sym same ∙ e) in
    record { calls = inl (λ g. no_call callee args g both.0 both.1, (refl, refl)) }

counts : (callee : Look) (args : Option (List Expr)) (counted : Bool) (old new : Found) → counted ≡ false
    → Adds (called_by callee) args old new → Calls callee args counted true old new
counts callee None counted old new c a = record { calls = tt }
counts callee (Some args) counted old new c a = record { calls = inr (c, (a.makes, refl)) }

-- ---- behind a call that counted none does
no_count : (l : Look) → IsBehind l → (is_define l || is_star l) ≡ false
no_count l is = ap (λ (b : Bool). b || is_star l) is.defines ∙ is.stars

module _ (x : List ℕ) (ts : List Token) where
  pub first_counts : (along : Along) (args : Option (List Expr)) (is : Bool) (old new : Found) → IsOnce x ts along
      → is ≡ (is_define (look_of x ts along.callee) || is_star (look_of x ts along.callee)) → is ≡ true
      → Adds (called_by (look_of x ts along.callee)) args old new
      → Calls (look_of x ts along.callee) args along.counted true old new
  first_counts along args is old new once same so adds =
      counts (look_of x ts along.callee) args along.counted old new (go along.counted refl) adds
    where
      go : (counted : Bool) → along.counted ≡ counted → along.counted ≡ false
      go false e = e
      go true e =
          let not_so : true ≡ false = sym so ∙ (same ∙ no_count (look_of x ts along.callee) (once e).1) in
          let bad : ⊥ = cc in
          absurd bad

  pub once_call : (seen : SeenLook) (counted : Bool) → IsBehind (look_of x ts seen)
      → IsOnce x ts (record { seen = seen; callee = seen; counted = counted })
  once_call seen counted is = λ e. (is, is)

  pub once_part : (along : Along) (seen : SeenLook) → IsOnce x ts along
      → (IsBehind (look_of x ts along.seen) → IsBehind (look_of x ts seen))
      → IsOnce x ts (record { seen = seen; callee = seen; counted = along.counted })
  once_part along seen once stays = λ e. let is = stays (once e).0 in (is, is)

  pub once_begun : (seen callee : SeenLook) → IsOnce x ts (record { seen = seen; callee = callee; counted = false })
  once_begun seen callee = λ e. let bad : ⊥ = cc in absurd bad

-- ---- what is linked looks so as a callee
as_callee : (e : Expr) (l : Look) → Linked l e → callee_look e ≡ l
unfolding callee_look
as_callee e l is = ap (λ (o : Option Expr). look (unwrap_or o e)) is.1.follows ∙ is.0

abbrev at : Look → Look → Bool → Found → Spot
at seen callee counted found = record { seen = seen; callee = callee; counted = counted; found = found }

-- ---- a part that is no call
quiet_state : (post : Post) (seen callee told : Look) (counted : Bool) (found start : Found) (byte : ℕ) (e : Expr)
    (calls : Facts) → called_in (out-Expr (post byte e)) ≡ [] → (look e ≡ seen → Linked told (post byte e))
    → State e calls (at seen callee counted found) start
    → State (post byte e) (called_in (out-Expr (post byte e)) ++ calls) (at told told counted found) start
quiet_state post seen callee told counted found start byte e calls is makes s =
    let linked = makes s.looks in
    subst (λ (own : Facts). State (post byte e) (own ++ calls) (at told told counted found) start) (sym is)
    (record {
      looks = linked.0;
      acts = as_callee (post byte e) told linked;
      found = s.found;
      quiet = s.quiet;
    })

follows_quiet : (part : Option Post) (seen callee told : Look) (counted : Bool) (found : Found)
    → Makes (Looks seen) (Linked told) part → CallsOf None part
    → Follows part (at seen callee counted found) (at told told counted found)
follows_quiet None seen callee told counted found makes c = record { follows = tt }
follows_quiet (Some post) seen callee told counted found makes c = record {
  follows = λ start byte e calls s.
      quiet_state post seen callee told counted found start byte e calls (c.calls byte e) (makes.makes byte e) s;
}

pub part_follows : (part view : Option Post) (seen callee told : Look) (counted : Bool) (found : Found) → part ≡ view
    → Makes (Looks seen) (Linked told) part → CallsOf None view
    → Follows part (at seen callee counted found) (at told told counted found)
part_follows part view seen callee told counted found is makes c =
    follows_quiet part seen callee told counted found makes (subst (λ (p : Option Post). CallsOf None p) (sym is) c)

-- there is no such part
pub absent_follows : (u g : Value) (a : Spot) → g ≡ as_group u → part g 0 ≡ absent
    → Follows (post_at (as_group u) 0) a a
absent_follows u g a is e =
    subst (λ (o : Option Post). Follows o a a)
    (sym (ap (λ (v : Value). post_in v) (ap (λ (g : Value). part g 0) (sym is) ∙ e))) (record { follows = tt })

-- ---- a call
call_own : (e : Expr) (args : List Expr) (callee : Look) (f : Found) (calls : Facts) → callee_look e ≡ callee
    → after f (Called e args ∷ calls) ≡ after (called_by callee args f) calls
unfolding called
call_own e args callee f calls is =
    after_one f (Called e args) calls ∙ ap (λ (l : Look). after (called_by l args f) calls) is

call_state : (args : List Expr) (seen callee told : Look) (counted counted_then : Bool) (found found_then : Found)
    → Passes callee args counted counted_then found found_then
    ⊎ Counts callee args counted counted_then found found_then
    → (post : Post) → IsCall post args
    → ((byte : ℕ) (e : Expr) → look e ≡ seen → Linked told (post byte e)) → (start : Found) (byte : ℕ) (e : Expr)
    (calls : Facts) → State e calls (at seen callee counted found) start
    → State (post byte e) (called_in (out-Expr (post byte e)) ++ calls) (at told told counted_then found_then) start
call_state args seen callee told counted counted_then found found_then c post is makes start byte e calls s =
    let linked = makes byte e s.looks in
    subst (λ (own : Facts). State (post byte e) (own ++ calls) (at told told counted_then found_then) start)
    (sym (is byte e).0)
    (record {
      looks = linked.0;
      acts = as_callee (post byte e) told linked;
      found = founded c;
      quiet = quieted c;
    })
  where
    founded : Passes callee args counted counted_then found found_then
        ⊎ Counts callee args counted counted_then found found_then
        → found_then ≡ after start (Called e args ∷ calls)
    founded (inl p) =
        p.1.0 ∙ (s.found ∙ sym (call_own e args callee start calls s.acts
        ∙ ap (λ (f : Found). after f calls) (p.0 start)))
    founded (inr p) =
        p.1.0 ∙ (ap (called_by callee args) (s.found ∙ s.quiet p.0 start)
        ∙ sym (call_own e args callee start calls s.acts ∙ s.quiet p.0 (called_by callee args start)))

    quieted : Passes callee args counted counted_then found found_then
        ⊎ Counts callee args counted counted_then found found_then
        → counted_then ≡ false → (f : Found) → after f (Called e args ∷ calls) ≡ f
    quieted (inl p) c f =
        call_own e args callee f calls s.acts
        ∙ (ap (λ (g : Found). after g calls) (p.0 f) ∙ s.quiet (sym p.1.1 ∙ c) f)
    quieted (inr p) c f = let bad : true ≡ false = sym p.1.1 ∙ c in let no : ⊥ = cc in absurd no

pub call_step : (args : Option (List Expr)) (seen callee told : Look) (counted counted_then : Bool)
    (found found_then : Found) → Calls callee args counted counted_then found found_then
    → CallStep args told (at seen callee counted found) (at told told counted_then found_then)
call_step None seen callee told counted counted_then found found_then c = record { steps = tt }
call_step (Some args) seen callee told counted counted_then found found_then c = record {
  steps = λ post is makes start byte e calls s.
      call_state args seen callee told counted counted_then found found_then c.calls post is makes start byte e calls s;
}

follows_call : (part : Option Post) (args : Option (List Expr)) (seen : Look) (a b : Spot)
    → Tells (λ args. call_of a.seen (map look args)) args seen → CallsOf (Some args) part → CallStep args seen a b
    → Follows part a b
follows_call None args seen a b told c s = record { follows = tt }
follows_call (Some post) None seen a b told c s = absurd c.calls
follows_call (Some post) (Some args) seen a b told c s = record {
  follows = λ start byte e calls t.
      s.steps post c.calls
      (λ byte e is.
      subst (λ (l : Look). Linked l (post byte e)) (ap (λ (l : Look). call_of l (map look args)) is ∙ told.told)
      (c.calls byte e).1) start byte e calls t;
}

pub call_follows : (part view : Option Post) (args : Option (List Expr)) (seen : Look) (a b : Spot) → part ≡ view
    → Tells (λ args. call_of a.seen (map look args)) args seen → CallsOf (Some args) view → CallStep args seen a b
    → Follows part a b
call_follows part view args seen a b is told c s =
    follows_call part args seen a b told (subst (λ (p : Option Post). CallsOf (Some args) p) (sym is) c) s

-- ---- a part that isn't there
pub none_follows : (part : Option Post) (a b : Spot) → part ≡ None → Follows part a b
none_follows part a b e = subst (λ (p : Option Post). Follows p a b) (sym e) (record { follows = tt })
