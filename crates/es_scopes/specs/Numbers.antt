-- The numbers of scopes: those of a program are 1, 2 and so on, by where they begin, outer ones before inner ones. A
-- name has the number of the innermost scope around it that declares its spelling, else 0.
use Rattle.std.specs.Prelude.{◌≡◌, ℕ, ◌+◌, ◌==◌, Bool, true, false, ◌&&◌, ◌||◌, if◌then◌else◌, List, [], ◌∷◌, map, Option, Some, None, option_map, slice_get, bytes_eq}
use Rattle.es_token.specs.declared.token.Token.{Token}
use Rattle.es_lowering.specs.Texts.{ident_of}
use Rattle.es_grammar.specs.declared.cst.tree.Cst.{Cst}
use Rattle.es_scopes.specs.declared.steps.Place.{Place}
use Rattle.es_scopes.specs.declared.steps.Place.TheVariants as vPlace
use Rattle.es_scopes.specs.declared.steps.Mark.TheVariants as mark
use Rattle.es_scopes.specs.Marks.{Marks, marks}

-- a scope: its number, and whether `var` declares in it
pub record Scope : Type 0 where
  pub number : ℕ
  pub hoists : Bool

-- a name of a program: how it is meant, the number of its token, and the scopes around it, the innermost first
pub record Named : Type 0 where
  pub place : Place
  pub token : ℕ
  pub around : List Scope

abbrev pub closed : List Scope → List Scope
closed [] = []
closed (s ∷ around) = around

-- the names among these marks, inside these scopes, of which the next has this number
abbrev pub named_in : List Scope → ℕ → Marks → List Named
named_in around next [] = []
named_in around next (mark.Open hoists ∷ rest) =
    named_in (record { number = next; hoists = hoists } ∷ around) (next + 1) rest
named_in around next (mark.Close ∷ rest) = named_in (closed around) next rest
named_in around next (mark.Name place token ∷ rest) =
    record { place = place; token = token; around = around } ∷ named_in around next rest

-- ---- which scope declares a name
abbrev pub innermost : List Scope → Option ℕ
innermost [] = None
innermost (s ∷ around) = Some s.number

-- the nearest function, static block, namespace body or program
abbrev pub hoisting : List Scope → Option ℕ
hoisting [] = None
hoisting (s ∷ around) = if s.hoists then Some s.number else hoisting around

abbrev pub home_by : Place → List Scope → Option ℕ
home_by vPlace.Binds around = innermost around
home_by vPlace.Hoists around = hoisting around
home_by _ around = None

abbrev pub home : Named → Option ℕ
home it = home_by it.place it.around

abbrev pub is_number : ℕ → Option ℕ → Bool
is_number n (Some m) = n == m
is_number n None = false

module _ (x : List ℕ) (ts : List Token) where
  -- a name is the text of its token
  abbrev pub spelled : Named → Option (List ℕ)
  spelled it = option_map (λ t. (ident_of x t).sym) (slice_get ts it.token)

  abbrev pub same_spelling : Option (List ℕ) → Option (List ℕ) → Bool
  same_spelling (Some a) (Some b) = bytes_eq a b
  same_spelling _ _ = false

  -- one of these names is declared in the scope of this number, and is spelled so
  abbrev pub declares : List Named → ℕ → Option (List ℕ) → Bool
  declares [] n name = false
  declares (it ∷ names) n name =
      (is_number n (home it) && same_spelling name (spelled it)) || declares names n name

  -- the first of these scopes that declares the name, by its number
  abbrev pub declaring : List Named → Option (List ℕ) → List Scope → ℕ
  declaring names name [] = 0
  declaring names name (s ∷ around) =
      if declares names s.number name then s.number else declaring names name around

  abbrev pub number_of : List Named → Named → ℕ
  number_of names it = declaring names (spelled it) it.around

  -- each name of a program by its token, in the order of the text, with its number
  abbrev pub numbered : List Named → List Named → List (ℕ × ℕ)
  numbered names some = map (λ it. (it.token, number_of names it)) some

  unfoldable pub ids_in : Marks → List (ℕ × ℕ)
  ids_in found = numbered (named_in [] 1 found) (named_in [] 1 found)

  unfoldable pub ids : Cst → List (ℕ × ℕ)
  ids tree = ids_in (marks ts tree)

-- the number of the name that is this token; 0 where it is none
abbrev pub number_at : List (ℕ × ℕ) → ℕ → ℕ
number_at [] token = 0
number_at (id ∷ ids) token = if id.0 == token then id.1 else number_at ids token

-- ---- what the number is, said of the scopes around a name
-- the innermost of these scopes that declares a name has this number; where none does, it is 0
pub data Innermost (declares : ℕ → Bool) : List Scope → ℕ → Type 0 where
  none : Innermost declares [] 0
  this : (s : Scope) (outer : List Scope) → declares s.number ≡ true → Innermost declares (s ∷ outer) s.number
  further : (s : Scope) (outer : List Scope) (n : ℕ) → declares s.number ≡ false → Innermost declares outer n
      → Innermost declares (s ∷ outer) n
