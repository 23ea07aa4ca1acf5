-- A tree that fits never ends before it begins, nor past the last token; where its form takes a token, it ends behind it.
use Rattle.std.specs.Prelude.{List, Option, Some, None, slice_get, ◌||◌, ◌&&◌, Bool, true, false}
use Rattle.std.proofs.Common.{◌≡◌, ℕ, zero, suc, ◌+◌, ◌<◌, ◌≤◌, length, refl, inl, inr, arith}
use Rattle.std.proofs.lemmas.Option.{slice_get_within}
use Rattle.grammar_theory.specs.Key.{Key, seen_of, has_kind}
use Rattle.grammar_theory.specs.Productions.{Predict, Rhs, done, tok, punct, row, opt, many, alt, when_, where_, Production, refuse, make, choose, as_, pick, wrap}
use Rattle.grammar_theory.specs.Plain.{Plain, nil, turn}
use Rattle.grammar_theory.specs.Fits.{Reading, Turns, Wraps, Fits, IsBy, Under}
use Rattle.grammar_theory.specs.Checks.{takes, rule_takes, IsSteady}
use Rattle.grammar_theory.proofs.OutLemmas.{clash}

-- from one place to another that isn't before it, is behind it where `strict` says so, and is within the tokens
pub record IsAhead (n : ℕ) (strict : Bool) (from to : ℕ) : Type 0 where
  pub forward : from ≤ to
  pub strictly : strict ≡ true → from < to
  pub within : from ≤ n → to ≤ n

-- two tests that hold together hold each
pub both_hold : (a b : Bool) → a && b ≡ true → (a ≡ true) × (b ≡ true)
both_hold true b e = (refl, e)
both_hold false b e = clash e

-- a token of a kind stands before the end
pub within_kind : (K : List Key) (at : ℕ) (may : _) (x : Option Key) → slice_get K at ≡ x
    → has_kind may (seen_of x) ≡ true → at < length K
within_kind K at may (Some key) e h = slice_get_within K at key e
within_kind K at may None e h = clash h

stay : (n from to : ℕ) → from ≡ to → IsAhead n false from to
stay n from to e = record { forward = omega (arith, e); strictly = λ h. clash h; within = λ h. omega (arith, e) }

pub weaken : (n : ℕ) (b : Bool) (from to : ℕ) → IsAhead n b from to → IsAhead n false from to
weaken n b from to a = record { forward = a.forward; strictly = λ h. clash h; within = a.within }

-- the same steps, where one test of taking a token implies the other
sharpen : (n : ℕ) (a b : Bool) (from to : ℕ) → (a ≡ true → b ≡ true) → IsAhead n b from to → IsAhead n a from to
sharpen n a b from to e x = record { forward = x.forward; strictly = λ h. x.strictly (e h); within = x.within }

-- one token and then on
one_more : (n : ℕ) (b : Bool) (from to : ℕ) → from < n → IsAhead n b (from + 1) to → IsAhead n true from to
one_more n b from to here a = record {
  forward = let f : from + 1 ≤ to = a.forward in omega arith;
  strictly = λ _. let f : from + 1 ≤ to = a.forward in omega arith;
  within = λ _. a.within (omega arith);
}

-- one part and then another
join : (n : ℕ) (a b : Bool) (from mid to : ℕ) → IsAhead n a from mid → IsAhead n b mid to → IsAhead n (a || b) from to
join n true b from mid to x y = record {
  forward = let f : from ≤ mid = x.forward in let g : mid ≤ to = y.forward in omega arith;
  strictly = λ _. let f : from < mid = x.strictly refl in let g : mid ≤ to = y.forward in omega arith;
  within = λ h. y.within (x.within h);
}
join n false b from mid to x y = record {
  forward = let f : from ≤ mid = x.forward in let g : mid ≤ to = y.forward in omega arith;
  strictly = λ h. let f : from ≤ mid = x.forward in let g : mid < to = y.strictly h in omega arith;
  within = λ h. y.within (x.within h);
}

-- the turns of a list
pub turns_ahead : {NodeKind : Type 0} (h : Reading) (K : List Key) (c : Predict) (One : Plain NodeKind → ℕ → ℕ → Type 0)
    (b : Bool) (n : ℕ)
    → ((q : Plain NodeKind) (from mid : ℕ) → One q from mid → IsAhead n b from mid)
    → (ps : Plain NodeKind) (from to : ℕ) → Turns h K c One ps from to → IsAhead n false from to
turns_ahead h K c One b n one nil from to fit = stay n from to fit.1
turns_ahead h K c One b n one (turn q ps) from to fit =
    join n false false from fit.0 to (weaken n b from fit.0 (one q from fit.0 fit.2))
    (turns_ahead h K c One b n one ps fit.0 to fit.3)
turns_ahead h K c One b n one _ from to fit = absurd fit

-- an operand, and the turns behind it
or_true : (b : Bool) → b ≡ true → b || false ≡ true
or_true b e = rw e refl

pub wraps_ahead : {NodeKind : Type 0} (h : Reading) (K : List Key) (l : NodeKind) (c : Predict)
    (Operand Parts : Plain NodeKind → ℕ → ℕ → Type 0)
    (b : Bool) (n : ℕ)
    → ((q : Plain NodeKind) (from mid : ℕ) → Operand q from mid → IsAhead n b from mid)
    → ((q : Plain NodeKind) (from mid : ℕ) → Parts q from mid → IsAhead n false from mid)
    → (k : ℕ) (p : Plain NodeKind) (from to : ℕ) → Wraps h K l c Operand Parts k p from to → IsAhead n b from to
wraps_ahead h K l c Operand Parts b n one other zero p from to fit = one p from to fit
wraps_ahead h K l c Operand Parts b n one other (suc k) p from to fit =
    sharpen n b (b || false) from to (or_true b)
    (join n b false from fit.2 to (wraps_ahead h K l c Operand Parts b n one other k fit.0 from fit.2 fit.4)
    (other fit.1 fit.2 to fit.6))

module _ {Row NodeKind : Type 0} (h : Reading) (K : List Key) (solid : Row → Bool)
    (Below : Row → Plain NodeKind → ℕ → ℕ → Type 0)
    (below_ahead : (r : Row) (q : Plain NodeKind) (from mid : ℕ) → Below r q from mid
    → IsAhead (length K) (solid r) from mid) where
  -- the parts of a node
  pub fits_ahead : (f : Rhs Row) (p : Plain NodeKind) (from to : ℕ)
      → Fits h K Below f p from to → IsAhead (length K) (takes solid f) from to
  fits_ahead done p from to fit = stay (length K) from to fit.1
  fits_ahead (tok s may f) p from to fit =
      one_more (length K) (takes solid f) from to (within_kind K from may (slice_get K from) refl fit.2)
      (fits_ahead f fit.0 (from + 1) to fit.3)
  fits_ahead (punct k f) p from to fit =
      one_more (length K) (takes solid f) from to (within_kind K from _ (slice_get K from) refl fit.2)
      (fits_ahead f fit.0 (from + 1) to fit.3)
  fits_ahead (row r f) p from to fit =
      join (length K) (solid r) (takes solid f) from fit.2 to (below_ahead r fit.0 from fit.2 fit.4)
      (fits_ahead f fit.1 fit.2 to fit.5)
  fits_ahead (opt c g f) p from to fit =
      join (length K) false (takes solid f) from fit.2 to
      (elim fit.4 [
        | inl there ↦ weaken (length K) (takes solid g) from fit.2 (fits_ahead g fit.0 from fit.2 there.1)
        | inr absent ↦ stay (length K) from fit.2 absent.2
      ]) (fits_ahead f fit.1 fit.2 to fit.5)
  fits_ahead (many c g f) p from to fit =
      join (length K) false (takes solid f) from fit.2 to
      (turns_ahead h K c (Fits h K Below g) (takes solid g) (length K) (fits_ahead g) fit.0 from fit.2 fit.4)
      (fits_ahead f fit.1 fit.2 to fit.5)
  fits_ahead (alt t a b f) p from to fit =
      join (length K) (takes solid a && takes solid b) (takes solid f) from fit.2 to
      (elim fit.4 [
        | inl one ↦
            sharpen (length K) (takes solid a && takes solid b) (takes solid a) from fit.2
            (λ e. (both_hold (takes solid a) (takes solid b) e).0) (fits_ahead a fit.0 from fit.2 one.1)
        | inr other ↦
            sharpen (length K) (takes solid a && takes solid b) (takes solid b) from fit.2
            (λ e. (both_hold (takes solid a) (takes solid b) e).1) (fits_ahead b fit.0 from fit.2 other.1)
      ]) (fits_ahead f fit.1 fit.2 to fit.5)
  fits_ahead (when_ t f) p from to fit = fits_ahead f p from to fit.1
  fits_ahead (where_ t f) p from to fit = fits_ahead f p from to fit.1

  -- a rule
  pub by_ahead : (b : Bool) (a : Production Row NodeKind) → (b ≡ true → rule_takes solid a ≡ true)
      → (p : Plain NodeKind) (from to : ℕ)
      → IsBy h K Below a p from to → IsAhead (length K) b from to
  by_ahead b refuse e p from to by = absurd by
  by_ahead b (make l f) e p from to by = sharpen (length K) b (takes solid f) from to e (fits_ahead f by.0 from to by.2)
  by_ahead b (choose t x y) e p from to by = elim by [
    | inl one ↦ by_ahead b x (λ s. (both_hold (rule_takes solid x) (rule_takes solid y) (e s)).0) p from to one.1
    | inr other ↦ by_ahead b y (λ s. (both_hold (rule_takes solid x) (rule_takes solid y) (e s)).1) p from to other.1
  ]
  by_ahead b (as_ w a) e p from to by = by_ahead b a e by.0 from to by.2
  by_ahead b (pick g x y) e p from to by = elim by [
    | inl one ↦ by_ahead b x (λ s. (both_hold (rule_takes solid x) (rule_takes solid y) (e s)).0) p from to one.1
    | inr other ↦ by_ahead b y (λ s. (both_hold (rule_takes solid x) (rule_takes solid y) (e s)).1) p from to other.1
  ]
  by_ahead b (wrap l x c f) e p from to by =
      wraps_ahead h K l c (IsBy h K Below x) (Fits h K Below f) b (length K) (by_ahead b x e)
      (λ q at mid one. weaken (length K) (takes solid f) at mid (fits_ahead f q at mid one)) by.0 p from to by.1

-- a row
pub under_ahead : {Row NodeKind : Type 0} (h : Reading) (K : List Key) (rule : Row → Production Row NodeKind)
    (solid : Row → Bool)
    → IsSteady rule solid → (room : ℕ) (r : Row) (p : Plain NodeKind) (from to : ℕ)
    → Under h K rule room r p from to → IsAhead (length K) (solid r) from to
unfolding Under
under_ahead h K rule solid steady zero r p from to under = absurd under
under_ahead h K rule solid steady (suc room) r p from to under =
    by_ahead h K solid (Under h K rule room) (under_ahead h K rule solid steady room) (solid r) (rule r)
    (steady.rows r) p from to under
