-- What declarators add.
use Rattle.std.specs.Prelude.{List, ◌∷◌, Option, Some, None, map}
use Rattle.std.proofs.Common.{◌≡◌, sym, ap, subst, ◌∙◌}
use Rattle.es_ast.specs.declared.ast.VarDeclarator.{VarDeclarator}
use Rattle.es_lowering.specs.Value.{Value, absent, nil, more, given, part, as_group, group, turns, declarator_at}
use Rattle.es_syntax.specs.Roles.{declarator_in}
use Rattle.cjs_facts.specs.declared.found.Found.{Found}
use Rattle.cjs_facts.specs.Facts.{Bound}
use Rattle.cjs_facts.specs.Exports.{after}
use Rattle.cjs_calls.specs.Binds.{Bounds}
use Rattle.cjs_table.specs.Facts.{bound_all, bound_of}
use Rattle.cjs_table.specs.Left.{Gives}
use Rattle.cjs_table.proofs.Given.{after_none, after_one}

-- a declarator, and others behind it
one_more : (now next new : Found) (o : Option VarDeclarator) (os : Option (List VarDeclarator)) → Bounds o now next
    → Gives (bound_all os) next new
    → Gives (bound_all (given o (λ first. given os (λ others. Some (first ∷ others))))) now new
one_more now next new None os a b = tt
one_more now next new (Some d) None a b = tt
one_more now next new (Some d) (Some ds) a b =
    b ∙ (ap (λ (f : Found). after f (map Bound ds)) a.binds ∙ sym (after_one now (Bound d) (map Bound ds)))

-- there is no such declarator
pub absent_bound : (u g : Value) (f : Found) → g ≡ as_group u → part g 0 ≡ absent
    → Bounds (declarator_at (as_group u) 0) f f
absent_bound u g f is e =
    subst (λ (o : Option VarDeclarator). Bounds o f f)
    (sym (ap (λ (v : Value). declarator_in v) (ap (λ (g : Value). part g 0) (sym is) ∙ e))) (record { binds = tt })

-- if what is left adds this to what is found by now, all add it to what was found before
pub record BoundLeft (start now : Found) (all left : Value) : Type 0 where
  pub adds : (new : Found) → Gives (bound_all (turns (λ turn. declarator_at turn 0) left)) now new
      → Gives (bound_all (turns (λ turn. declarator_at turn 0) all)) start new

pub bound_start : (start : Found) (all : Value) → BoundLeft start start all all
bound_start start all = record { adds = λ new a. a }

pub bound_next : (start now next : Found) (all left v rest : Value) → left ≡ more v rest
    → BoundLeft start now all left → Bounds (declarator_at (as_group v) 0) now next → BoundLeft start next all rest
bound_next start now next all left v rest e before a = record {
  adds = λ new b.
      before.adds new (subst (λ (w : Value). Gives (bound_all (turns (λ turn. declarator_at turn 0) w)) now new) (sym e)
      (one_more now next new (declarator_at (as_group v) 0) (turns (λ turn. declarator_at turn 0) rest) a b));
}

pub bound_done : (start now : Found) (all left : Value) → left ≡ nil → BoundLeft start now all left
    → Gives (bound_all (turns (λ turn. declarator_at turn 0) all)) start now
bound_done start now all left e before =
    before.adds now
    (subst (λ (w : Value). Gives (bound_all (turns (λ turn. declarator_at turn 0) w)) now now) (sym e)
    (sym (after_none now)))

-- ---- all
module _ (p : Value) where
  pub bound_more : (u v : Value) (start mid now : Found) → part p 1 ≡ u → v ≡ group p 2
      → Bounds (declarator_in u) start mid → Gives (bound_all (turns (λ turn. declarator_at turn 0) v)) mid now
      → Gives (bound_of p) start now
  bound_more u v start mid now e f a b =
      one_more start mid now (declarator_at p 1) (turns (λ turn. declarator_at turn 0) (group p 2))
      (subst (λ (u : Value). Bounds (declarator_in u) start mid) (sym e) a)
      (subst (λ (v : Value). Gives (bound_all (turns (λ turn. declarator_at turn 0) v)) mid now) f b)

  pub bound_none : (f : Found) → part p 1 ≡ absent → Gives (bound_of p) f f
  bound_none f e =
      subst (λ (o : Option VarDeclarator). Gives (bound_all (given o (λ first.
      given (turns (λ turn. declarator_at turn 0) (group p 2)) (λ others. Some (first ∷ others))))) f f)
      (sym (ap declarator_in e)) tt
