-- The tokens of the names that each scope declares.
use Rattle.std.specs.Prelude.{◌≡◌, ℕ, ◌+◌, ◌++◌, if◌then◌else◌, List, [], ◌∷◌, Option, Vec}
use Rattle.std.specs.BTreeMap.{BTreeMap, get}
use Rattle.std.specs.Ordering.{nat_cmp}
use Rattle.std.specs.Option.{option_map_or}
use Rattle.es_scopes.specs.declared.steps.Mark.{Mark}
use Rattle.es_scopes.specs.declared.steps.Mark.TheVariants as mark
use Rattle.es_scopes.specs.Numbers.{closed, home_by, is_number}
use Rattle.es_variables.specs.scope_numbers.Stacks.{Opened}

abbrev pub tokens_in : {A : Type 0} → BTreeMap ℕ (Vec ℕ A) → ℕ → List ℕ
tokens_in declared n = option_map_or (λ tokens. tokens.items) (get nat_cmp declared n) []

-- the token, where the name is declared in the scope of this number
abbrev pub at_home : ℕ → Option ℕ → ℕ → List ℕ
at_home n home token = if is_number n home then token ∷ [] else []

-- one mark more
abbrev pub Meets : (ℕ → List ℕ) → Opened → Mark → (ℕ → List ℕ) → Opened → Type 0
Meets tokens opened (mark.Open hoists) after behind =
    ((n : ℕ) → after n ≡ tokens n)
    × (behind.around ≡ record { number = opened.next; hoists = hoists } ∷ opened.around)
    × (behind.next ≡ opened.next + 1)
Meets tokens opened mark.Close after behind =
    ((n : ℕ) → after n ≡ tokens n) × (behind.around ≡ closed opened.around) × (behind.next ≡ opened.next)
Meets tokens opened (mark.Name place token) after behind =
    ((n : ℕ) → after n ≡ tokens n ++ at_home n (home_by place opened.around) token)
    × (behind.around ≡ opened.around) × (behind.next ≡ opened.next)
