-- Chains, part by part.
use Rattle.std.specs.Prelude.{ℕ, Bool, List, [], ◌∷◌, ◌++◌, Option, Some, None}
use Rattle.std.proofs.Common.{◌≡◌, sym, ap, subst, ◌∙◌}
use Rattle.std.proofs.lemmas.List.{append-nil, append_assoc}
use Rattle.es_ast.specs.declared.ast.Expr.{Expr, out-Expr}
use Rattle.es_lowering.specs.Value.{Value, nil, more, given, as_group, turns, post_at}
use Rattle.es_lowering.specs.Expressions.{Post, chained}
use Rattle.cjs_facts.specs.declared.found.Found.{Found}
use Rattle.cjs_facts.specs.Facts.{Facts}
use Rattle.cjs_facts.specs.Looks.{Look, look, callee_look}
use Rattle.cjs_facts.specs.Exports.{after}
use Rattle.cjs_looks.specs.Seen.{Tells}
use Rattle.cjs_table.specs.Facts.{called_in, chain_calls, chain_of}
use Rattle.cjs_table.specs.Left.{Gives}
use Rattle.cjs_table.specs.Chains.{Spot, State, Follows, AllFollow}
use Rattle.cjs_table.proofs.Given.{after_none}

one_more : (a b c : Spot) (o : Option Post) (os : Option (List Post)) → Follows o a b → AllFollow os b c
    → AllFollow (given o (λ p. given os (λ rest. Some (p ∷ rest)))) a c
one_more a b c None os f g = record { follow = tt }
one_more a b c (Some p) None f g = record { follow = tt }
one_more a b c (Some p) (Some ps) f g = record {
  follow = λ start byte e calls s.
      subst (λ (own : Facts). State (chained byte (p byte e) ps) own c start)
      (sym (append_assoc (chain_calls byte ps (p byte e)) (called_in (out-Expr (p byte e))) calls))
      (g.follow start byte (p byte e) (called_in (out-Expr (p byte e)) ++ calls) (f.follows start byte e calls s));
}

-- if what is left takes on what is there by now, all parts take on what was there before
pub record PostsLeft (all left : Value) (begin now : Spot) : Type 0 where
  pub takes : (b : Spot) → AllFollow (turns (λ turn. post_at turn 0) left) now b
      → AllFollow (turns (λ turn. post_at turn 0) all) begin b

pub posts_all : (all : Value) (begin : Spot) → PostsLeft all all begin begin
posts_all all begin = record { takes = λ b f. f }

pub posts_next : (all left v rest : Value) (begin now then_now : Spot) → left ≡ more v rest
    → PostsLeft all left begin now → Follows (post_at (as_group v) 0) now then_now
    → PostsLeft all rest begin then_now
posts_next all left v rest begin now then_now e before f = record {
  takes = λ b g.
      before.takes b (subst (λ (w : Value). AllFollow (turns (λ turn. post_at turn 0) w) now b) (sym e)
      (one_more now then_now b (post_at (as_group v) 0) (turns (λ turn. post_at turn 0) rest) f g));
}

pub posts_done : (all left : Value) (begin now : Spot) → left ≡ nil → PostsLeft all left begin now
    → AllFollow (turns (λ turn. post_at turn 0) all) begin now
posts_done all left begin now e before =
    before.takes now (subst (λ (w : Value). AllFollow (turns (λ turn. post_at turn 0) w) now now) (sym e)
    (record { follow = λ start byte e calls s. s }))

-- ---- a whole chain
abbrev at : Look → Look → Bool → Found → Spot
at seen callee counted found = record { seen = seen; callee = callee; counted = counted; found = found }

begins : (start : Found) (e : Expr) (seen callee : Look) (counted : Bool) → look e ≡ seen → callee_look e ≡ callee
    → State e [] (at seen callee counted start) start
begins start e seen callee counted looks acts = record {
  looks = looks;
  acts = acts;
  found = sym (after_none start);
  quiet = λ c f. after_none f;
}

by_parts : (start : Found) (byte : ℕ) (o : Option Expr) (p : Option Post) (ps : Option (List Post))
    (seen callee : Look) (counted : Bool) (b c : Spot) → Tells look o seen → Tells callee_look o callee
    → Follows p (at seen callee counted start) b → AllFollow ps b c → Gives (chain_of byte o p ps) start c.found
by_parts start byte None p ps seen callee counted b c looks acts f g = tt
by_parts start byte (Some e) None ps seen callee counted b c looks acts f g = tt
by_parts start byte (Some e) (Some p) None seen callee counted b c looks acts f g = tt
by_parts start byte (Some e) (Some p) (Some ps) seen callee counted b c looks acts f g =
    let first = f.follows start byte e [] (begins start e seen callee counted looks.told acts.told) in
    let all = g.follow start byte (p byte e) (called_in (out-Expr (p byte e)) ++ []) first in
    all.found
    ∙ ap (λ (z : Facts). after start (chain_calls byte ps (p byte e) ++ z))
    (append-nil (called_in (out-Expr (p byte e))))

pub chain_calls_added : (start now : Found) (o : Option Expr) (p : Option Post) (v : Value)
    (seen callee seen_then callee_then : Look) (counted counted_then : Bool) (b : Spot) → Tells look o seen
    → Tells callee_look o callee → Follows p (at seen callee counted start) b
    → AllFollow (turns (λ turn. post_at turn 0) v) b (at seen_then callee_then counted_then now) → (byte : ℕ)
    → Gives (chain_of byte o p (turns (λ turn. post_at turn 0) v)) start now
chain_calls_added start now o p v seen callee seen_then callee_then counted counted_then b looks acts f g byte =
    by_parts start byte o p (turns (λ turn. post_at turn 0) v) seen callee counted b
    (at seen_then callee_then counted_then now) looks acts f g
