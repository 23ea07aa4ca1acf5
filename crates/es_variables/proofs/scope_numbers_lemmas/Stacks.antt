-- The last number at a spelling is that of the innermost scope that declares it.
use Rattle.std.specs.Prelude.{ℕ, Bool, true, false, if◌then◌else◌, List, [], ◌∷◌, ◌++◌, Some, None}
use Rattle.std.proofs.Common.{◌≡◌, refl, sym, ap, ◌∙◌}
use Rattle.std.proofs.lemmas.List.{append-nil}
use Rattle.es_token.specs.declared.token.Token.{Token}
use Rattle.es_scopes.specs.Numbers.{Scope, Named, home, is_number, same_spelling, declares, declaring}
use Rattle.es_variables.specs.scope_numbers.Stacks.{declared_in, last_of, spelled_at, copies, stack_in}

-- there is one
any : List ℕ → Bool
any [] = false
any (n ∷ ns) = true

-- all of these are this number
AreAll : ℕ → List ℕ → Type 0
AreAll n [] = Unit {0}
AreAll n (m ∷ ms) = (m ≡ n) × AreAll n ms

last_more : (xs : List ℕ) (n : ℕ) (ns : List ℕ) → last_of (xs ++ n ∷ ns) ≡ last_of (n ∷ ns)
last_more [] n ns = refl
last_more (x ∷ []) n ns = refl
last_more (x ∷ y ∷ xs) n ns = last_more (y ∷ xs) n ns

last_all : (n m : ℕ) (ms : List ℕ) → m ≡ n → AreAll n ms → last_of (m ∷ ms) ≡ n
unfolding AreAll
last_all n m [] e all = e
last_all n m (k ∷ ms) e all = last_all n k ms all.0 all.1

module _ (x : List ℕ) (ts : List Token) (q : List ℕ) where
  abbrev spells : ℕ → Bool
  spells token = same_spelling x ts (Some q) (spelled_at x ts token)

  copies_all : (n : ℕ) (tokens : List ℕ) → AreAll n (copies x ts n tokens q)
  unfolding AreAll
  copies_all n [] = tt
  copies_all n (token ∷ tokens) = one (copies_all n tokens) (spells token) refl
    where
      one : AreAll n (copies x ts n tokens q) → (b : Bool) → spells token ≡ b
          → AreAll n (copies x ts n (token ∷ tokens) q)
      one others true e = rw (e) (refl, others)
      one others false e = rw (e) others

  -- a scope declares a spelling where one of its names is spelled so
  declares_any : (names : List Named) (n : ℕ)
      → declares x ts names n (Some q) ≡ any (copies x ts n (declared_in n names) q)
  unfolding any
  declares_any [] n = refl
  declares_any (it ∷ names) n = at (declares_any names n) (is_number n (home it)) refl (spells it.token) refl
    where
      at : declares x ts names n (Some q) ≡ any (copies x ts n (declared_in n names) q)
          → (b : Bool) → is_number n (home it) ≡ b → (c : Bool) → spells it.token ≡ c
          → declares x ts (it ∷ names) n (Some q) ≡ any (copies x ts n (declared_in n (it ∷ names)) q)
      at others true e true f = rw (e, f) refl
      at others true e false f = rw (e, f) others
      at others false e c f = rw (e) others

  last_by : (below above : List ℕ) (n : ℕ) → AreAll n above
      → last_of (below ++ above) ≡ (if any above then n else last_of below)
  unfolding AreAll any
  last_by below [] n all = ap last_of (append-nil below)
  last_by below (m ∷ ms) n all = last_more below m ms ∙ last_all n m ms all.0 all.1

  pub last_declaring : (names : List Named) (around : List Scope)
      → last_of (stack_in x ts names around q) ≡ declaring x ts names (Some q) around
  last_declaring names [] = refl
  last_declaring names (s ∷ around) =
      last_by (stack_in x ts names around q) (copies x ts s.number (declared_in s.number names) q) s.number
      (copies_all s.number (declared_in s.number names))
      ∙ ap (λ b. if b then s.number else last_of (stack_in x ts names around q)) (sym (declares_any names s.number))
      ∙ ap (λ n. if declares x ts names s.number (Some q) then s.number else n) (last_declaring names around)

-- a name that has no spelling is declared nowhere
none_declares : (x : List ℕ) (ts : List Token) (names : List Named) (n : ℕ) → declares x ts names n None ≡ false
none_declares x ts [] n = refl
none_declares x ts (it ∷ names) n = one (none_declares x ts names n) (is_number n (home it)) refl
  where
    one : declares x ts names n None ≡ false → (b : Bool) → is_number n (home it) ≡ b
        → declares x ts (it ∷ names) n None ≡ false
    one others true e = rw (e) others
    one others false e = rw (e) others

pub none_declaring : (x : List ℕ) (ts : List Token) (names : List Named) (around : List Scope)
    → declaring x ts names None around ≡ 0
none_declaring x ts names [] = refl
none_declaring x ts names (s ∷ around) =
    ap (λ b. if b then s.number else declaring x ts names None around) (none_declares x ts names s.number)
    ∙ none_declaring x ts names around
