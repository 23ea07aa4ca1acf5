-- What a walk over the marks of a program keeps: which scopes are open, the tokens that each scope declares, and for
-- each spelling the numbers of the open scopes that declare it.
use Rattle.std.specs.Prelude.{◌≡◌, ℕ, List, [], ◌∷◌, ◌++◌, map, Option, Some, slice_get, option_map}
use Rattle.std.specs.List.{filter}
use Rattle.es_token.specs.declared.token.Token.{Token}
use Rattle.es_lowering.specs.Texts.{ident_of}
use Rattle.es_variables.specs.declared.scope_numbers.opened.OpenScope.{OpenScope}
use Rattle.es_scopes.specs.Marks.{Marks}
use Rattle.es_scopes.specs.Numbers.{Scope, Named, named_in, home, hoisting, is_number, same_spelling, numbered}

-- the open scopes, the innermost first, and the number of the next one
pub record Opened : Type 0 where
  pub around : List Scope
  pub next : ℕ

abbrev pub scope_of : OpenScope → Scope
scope_of s = record { number = s.number; hoists = s.hoists }

-- each tells the nearest scope around in which `var` declares
abbrev pub AreNearest : List OpenScope → Type 0
AreNearest [] = Unit {0}
AreNearest (s ∷ around) = (s.nearest ≡ hoisting (map scope_of (s ∷ around))) × AreNearest around

-- the tokens of the names that the scope of this number declares
abbrev pub declared_in : ℕ → List Named → List ℕ
declared_in n names = map (λ it. it.token) (filter (λ it. is_number n (home it)) names)

-- the last of these, or 0
abbrev pub last_of : List ℕ → ℕ
last_of [] = 0
last_of (n ∷ []) = n
last_of (n ∷ m ∷ ns) = last_of (m ∷ ns)

module _ (x : List ℕ) (ts : List Token) where
  abbrev pub spelled_at : ℕ → Option (List ℕ)
  spelled_at token = option_map (λ t. (ident_of x t).sym) (slice_get ts token)

  -- the number, once for each of these tokens that is spelled so
  abbrev pub copies : ℕ → List ℕ → List ℕ → List ℕ
  copies n tokens q = map (λ token. n) (filter (λ token. same_spelling x ts (Some q) (spelled_at token)) tokens)

  -- the numbers of these scopes where they declare a spelling, the outermost first
  abbrev pub stack_in : List Named → List Scope → List ℕ → List ℕ
  stack_in names [] q = []
  stack_in names (s ∷ around) q = stack_in names around q ++ copies s.number (declared_in s.number names) q

-- what is kept of tokens is what each scope declares
abbrev pub AreDeclared : List Named → (ℕ → List ℕ) → Type 0
AreDeclared names tokens = (n : ℕ) → tokens n ≡ declared_in n names

-- what is kept at each spelling is what the open scopes declare
abbrev pub AreStacked : List ℕ → List Token → List Named → List Scope → (List ℕ → List ℕ) → Type 0
AreStacked x ts names around tops = (q : List ℕ) → tops q ≡ stack_in x ts names around q

-- the numbers of the names among the marks that are left
abbrev pub left_in : List ℕ → List Token → List Named → Opened → Marks → List (ℕ × ℕ)
left_in x ts names opened rest = numbered x ts names (named_in opened.around opened.next rest)
