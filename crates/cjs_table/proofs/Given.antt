-- Facts that are added where they are told.
use Rattle.std.specs.Prelude.{ℕ, List, [], ◌∷◌, ◌++◌, Option, Some, None, option_map}
use Rattle.std.proofs.Common.{◌≡◌, refl, sym, ap, subst, ◌∙◌}
use Rattle.es_ast.specs.declared.ast.Expr.{Expr}
use Rattle.es_ast.specs.declared.ast.Pat.{Pat}
use Rattle.es_ast.specs.declared.ast.Pat.TheVariants as vPat
use Rattle.es_lowering.specs.Value.{Value, absent, given, part, group, turns, expr_at, pat_at, post_at}
use Rattle.es_lowering.specs.Expressions.{Post}
use Rattle.es_syntax.specs.Roles.{expr_in, pat_in, post_in}
use Rattle.cjs_facts.specs.declared.found.Found.{Found}
use Rattle.cjs_facts.specs.Facts.{Fact, Assigned, Facts}
use Rattle.cjs_facts.specs.Exports.{step, after}
use Rattle.cjs_calls.specs.Assigns.{Assigns}
use Rattle.cjs_table.specs.Met.{Told, both}
use Rattle.cjs_table.specs.Facts.{chain_of, calls_of, assigned_of, pattern_assigned_of}
use Rattle.cjs_table.specs.Left.{Gives, Takes}

pub after_none : (f : Found) → after f [] ≡ f
unfolding after
after_none f = refl

pub after_one : (f : Found) (fact : Fact) (facts : Facts) → after f (fact ∷ facts) ≡ after (step f fact) facts
unfolding after
after_one f fact facts = refl

pub after_both : (f : Found) (a b : Facts) → after f (a ++ b) ≡ after (after f a) b
unfolding after
after_both f [] b = refl
after_both f (fact ∷ a) b = after_both (step f fact) a b

-- ---- assignments
assigned_by : (left right : Option Expr) (old new : Found) → Assigns (option_map vPat.Expr left) right old new
    → Gives (given left (λ left. given right (λ right. Some (Assigned (vPat.Expr left) right ∷ [])))) old new
assigned_by None right old new a = tt
assigned_by (Some left) None old new a = tt
assigned_by (Some left) (Some right) old new a =
    a.sets ∙ sym (after_one old (Assigned (vPat.Expr left) right) [] ∙ after_none _)

pattern_by : (left : Option Pat) (right : Option Expr) (old new : Found) → Assigns left right old new
    → Gives (given left (λ left. given right (λ right. Some (Assigned left right ∷ [])))) old new
pattern_by None right old new a = tt
pattern_by (Some left) None old new a = tt
pattern_by (Some left) (Some right) old new a = a.sets ∙ sym (after_one old (Assigned left right) [] ∙ after_none _)

module _ (p : Value) where
  pub assigned_gives : (u w : Value) (old new : Found) → part p 0 ≡ u → part p 2 ≡ w
      → Assigns (option_map vPat.Expr (expr_in u)) (expr_in w) old new → Gives (assigned_of p) old new
  assigned_gives u w old new e f a =
      assigned_by (expr_at p 0) (expr_at p 2) old new
      (subst (λ (u : Value). Assigns (option_map vPat.Expr (expr_in u)) (expr_at p 2) old new) (sym e)
      (subst (λ (w : Value). Assigns (option_map vPat.Expr (expr_in u)) (expr_in w) old new) (sym f) a))

  no_assigned : (left : Option Expr) (right : Option Expr) (f : Found) → right ≡ None
      → Gives (given left (λ left. given right (λ right. Some (Assigned (vPat.Expr left) right ∷ [])))) f f
  no_assigned None right f e = tt
  no_assigned (Some left) None f e = tt
  no_assigned (Some left) (Some right) f e = let bad : ⊥ = cc in absurd bad

  pub assigned_no_left : (f : Found) → part p 0 ≡ absent → Gives (assigned_of p) f f
  assigned_no_left f e =
      subst (λ (o : Option Expr). Gives (given o (λ left. given (expr_at p 2) (λ right.
      Some (Assigned (vPat.Expr left) right ∷ [])))) f f) (sym (ap expr_in e)) tt

  pub assigned_no_right : (f : Found) → part p 2 ≡ absent → Gives (assigned_of p) f f
  assigned_no_right f e = no_assigned (expr_at p 0) (expr_at p 2) f (ap expr_in e)

  pub pattern_gives : (u w : Value) (old new : Found) → part p 0 ≡ u → part p 1 ≡ w
      → Assigns (pat_in u) (expr_in w) old new → Gives (pattern_assigned_of p) old new
  pattern_gives u w old new e f a =
      pattern_by (pat_at p 0) (expr_at p 1) old new
      (subst (λ (u : Value). Assigns (pat_in u) (expr_at p 1) old new) (sym e)
      (subst (λ (w : Value). Assigns (pat_in u) (expr_in w) old new) (sym f) a))

  no_pattern : (left : Option Pat) (right : Option Expr) (f : Found) → right ≡ None
      → Gives (given left (λ left. given right (λ right. Some (Assigned left right ∷ [])))) f f
  no_pattern None right f e = tt
  no_pattern (Some left) None f e = tt
  no_pattern (Some left) (Some right) f e = let bad : ⊥ = cc in absurd bad

  pub pattern_no_left : (f : Found) → part p 0 ≡ absent → Gives (pattern_assigned_of p) f f
  pattern_no_left f e =
      subst (λ (o : Option Pat). Gives (given o (λ left. given (expr_at p 1) (λ right.
      Some (Assigned left right ∷ [])))) f f) (sym (ap pat_in e)) tt

  pub pattern_no_right : (f : Found) → part p 1 ≡ absent → Gives (pattern_assigned_of p) f f
  pattern_no_right f e = no_pattern (pat_at p 0) (expr_at p 1) f (ap expr_in e)

  -- ---- chains
  pub calls_give : (u w v : Value) (old new : Found) → part p 0 ≡ u → part p 1 ≡ w → v ≡ group p 2
      → ((start : ℕ) → Gives (chain_of start (expr_in u) (post_in w) (turns (λ turn. post_at turn 0) v)) old new)
      → (start : ℕ) → Gives (calls_of start p) old new
  calls_give u w v old new e f g a start =
      subst (λ (u : Value). Gives (chain_of start (expr_in u) (post_at p 1)
      (turns (λ turn. post_at turn 0) (group p 2))) old new) (sym e)
      (subst (λ (w : Value). Gives (chain_of start (expr_in u) (post_in w)
      (turns (λ turn. post_at turn 0) (group p 2))) old new) (sym f)
      (subst (λ (v : Value). Gives (chain_of start (expr_in u) (post_in w) (turns (λ turn. post_at turn 0) v)) old new)
      g
      (a start)))

  no_post : (base : Option Expr) (post : Option Post) (others : Option (List Post)) (f : Found) (start : ℕ)
      → post ≡ None → Gives (chain_of start base post others) f f
  no_post None post others f start e = tt
  no_post (Some base) None others f start e = tt
  no_post (Some base) (Some post) others f start e = let bad : ⊥ = cc in absurd bad

  pub calls_no_base : (f : Found) → part p 0 ≡ absent → (start : ℕ) → Gives (calls_of start p) f f
  calls_no_base f e start =
      subst (λ (o : Option Expr). Gives (chain_of start o (post_at p 1) (turns (λ turn. post_at turn 0) (group p 2))) f
      f)
      (sym (ap expr_in e)) tt

  pub calls_no_post : (f : Found) → part p 1 ≡ absent → (start : ℕ) → Gives (calls_of start p) f f
  calls_no_post f e start =
      no_post (expr_at p 0) (post_at p 1) (turns (λ turn. post_at turn 0) (group p 2)) f start (ap post_in e)

-- ---- walks
pub takes_all : (all : Told) (f : Found) → Takes all all f f
takes_all all f = record { takes = λ new g. g }

pub takes_same : (all left : Told) (f : Found) → left ≡ all → Takes all left f f
takes_same all left f e = record { takes = λ new g. subst (λ (t : Told). Gives t f new) e g }

-- facts that are added at once, and others after them
pub gives_both : (a b : Told) (old mid new : Found) → Gives a old mid → Gives b mid new → Gives (both a b) old new
gives_both None b old mid new g h = tt
gives_both (Some a) None old mid new g h = tt
gives_both (Some a) (Some b) old mid new g h =
    h ∙ ap (λ (f : Found). after f b) g ∙ sym (after_both old a b)
