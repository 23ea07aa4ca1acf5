-- Runs of modifiers: where they end, and whether one stands again.
use Rattle.std.specs.Prelude.{List, Bool, true, false, Some}
use Rattle.std.proofs.Common.{◌≡◌, ℕ, zero, suc, ◌+◌, refl}
use Rattle.grammar_theory.specs.Key.{Key, Seen, seen, is}
use Rattle.grammar_theory.specs.Productions.{Predicate}
use Rattle.es_grammar.specs.Functions.{stands_again, stand_once}
use Rattle.es_grammar.specs.Classes.{opens_modifier, behind_modifiers}

-- ---- the place behind the modifiers

pub behind_stop : (K : List Key) (n at : ℕ) → opens_modifier K at ≡ false → behind_modifiers K n at ≡ at
behind_stop K zero at none = refl
behind_stop K (suc n) at none = rw none refl

pub behind_more : (K : List Key) (n left at : ℕ) → n ≡ suc left → opens_modifier K at ≡ true
    → behind_modifiers K n at ≡ behind_modifiers K left (at + 1)
behind_more K n left at e opens = rw (e, opens) refl

pub behind_end : (K : List Key) (n at : ℕ) → n ≡ 0 → behind_modifiers K n at ≡ at
behind_end K n at e = rw e refl

module _ (g : Predicate) (K : List Key) where
  -- ---- one stands again

  pub again_stop : (s : Seen) (n at : ℕ) → g K at ≡ false → stands_again g K (Some s) n at ≡ false
  again_stop s zero at none = refl
  again_stop s (suc n) at none = rw none refl

  pub again_here : (s : Seen) (n left at : ℕ) → n ≡ suc left → g K at ≡ true → is s.kind (seen K at) ≡ true
      → stands_again g K (Some s) n at ≡ true
  again_here s n left at e opens same = rw (e, opens, same) refl

  pub again_more : (s : Seen) (n left at : ℕ) → n ≡ suc left → g K at ≡ true → is s.kind (seen K at) ≡ false
      → stands_again g K (Some s) n at ≡ stands_again g K (Some s) left (at + 1)
  again_more s n left at e opens other = rw (e, opens, other) refl

  pub again_end : (s : Seen) (n at : ℕ) → n ≡ 0 → stands_again g K (Some s) n at ≡ false
  again_end s n at e = rw e refl

  -- ---- each stands at most once

  pub once_stop : (n at : ℕ) → g K at ≡ false → stand_once g K n at ≡ true
  once_stop zero at none = refl
  once_stop (suc n) at none = rw none refl

  pub once_again : (n left at : ℕ) → n ≡ suc left → g K at ≡ true
      → stands_again g K (seen K at) left (at + 1) ≡ true → stand_once g K n at ≡ false
  once_again n left at e opens again = rw (e, opens, again) refl

  pub once_more : (n left at : ℕ) → n ≡ suc left → g K at ≡ true
      → stands_again g K (seen K at) left (at + 1) ≡ false → stand_once g K n at ≡ stand_once g K left (at + 1)
  once_more n left at e opens none = rw (e, opens, none) refl

  pub once_end : (n at : ℕ) → n ≡ 0 → stand_once g K n at ≡ true
  once_end n at e = rw e refl
