-- Longest fronts, character by character.
use Rattle.std.proofs.Common.{subst, ◌≡◌, ◌≢◌, ◌↔◌, IsTrue, Contains, inl, inr, rules, ◌<◌, ◌≤◌, ◌+◌, get_or, drop, length, arith, ℕ, Bool, true, List, [], ◌∷◌, ◌++◌, refl, ap, sym, ◌∙◌, false}
use Rattle.std.specs.Char.{encode_utf8}
use Rattle.std.specs.Str.{IsUtf8}
use Rattle.std.proofs.lemmas.Str.{chars_past_char}
use Rattle.std.specs.Bool.{MatchBool}
use Rattle.std.specs.List.{HoldsAt, AllWithin}
use Rattle.std.proofs.lemmas.List.{append_assoc, append_cancel_right, drop_more}
use Rattle.std.proofs.lemmas.List.Elements.{Contains-from_at}
use Rattle.std.proofs.lemmas.Iterator.Search.{true_from_Any}
pub use Rattle.monch.specs.repeats.Advance.{shorter_behind}
pub use Rattle.monch.specs.Advance.{behind_is_shorter}
use Rattle.monch.specs.Leaves.{PassesOnlyAscii, EachPasses, IsPassingFront, StopsAtChar, IsPassingBytes, StopsAtByte}

-- where the first character stops it, the front is empty
pub IsPassingFront-none : (test : ℕ → Bool → Type 0) (text : List ℕ) → StopsAtChar test text
    → IsPassingFront test text [] text
IsPassingFront-none test text stops = record { characters = []; spelled = refl; pass = tt; split = refl; stops = stops }

-- a character that passes goes before the front
pub IsPassingFront-more : (test : ℕ → Bool → Type 0) (text behind front rest : List ℕ) (c : ℕ)
    → text ≡ encode_utf8 c ++ behind → test c true → IsPassingFront test behind front rest
    → IsPassingFront test text (encode_utf8 c ++ front) rest
IsPassingFront-more test text behind front rest c cut passes more = record {
  characters = c ∷ more.characters;
  spelled = ap (λ x. encode_utf8 c ++ x) more.spelled;
  pass = (passes, more.pass);
  split = cut ∙ ap (λ x. encode_utf8 c ++ x) more.split ∙ sym (append_assoc (encode_utf8 c) front rest);
  stops = more.stops;
}

-- what passes one test passes another that says the same
pub EachPasses-map : (test other : ℕ → Bool → Type 0) (cs : List ℕ)
    → ((c : ℕ) (answer : Bool) → test c answer → other c answer)
    → EachPasses test cs → EachPasses other cs
EachPasses-map test other [] same each = tt
EachPasses-map test other (c ∷ cs) same each = (same c true each.0, EachPasses-map test other cs same each.1)

pub StopsAtChar-map : (test other : ℕ → Bool → Type 0) (text : List ℕ)
    → ((c : ℕ) (answer : Bool) → test c answer → other c answer)
    → StopsAtChar test text → StopsAtChar other text
StopsAtChar-map test other text same (inl ended) = inl ended
StopsAtChar-map test other text same (inr (c, rest, cut, stopped)) = inr (c, rest, cut, same c false stopped)

pub IsPassingFront-map : (test other : ℕ → Bool → Type 0) (text front rest : List ℕ)
    → ((c : ℕ) (answer : Bool) → test c answer → other c answer)
    → IsPassingFront test text front rest → IsPassingFront other text front rest
IsPassingFront-map test other text front rest same passing = record {
  characters = passing.characters;
  spelled = passing.spelled;
  pass = EachPasses-map test other passing.characters same passing.pass;
  split = passing.split;
  stops = StopsAtChar-map test other rest same passing.stops;
}

-- ---- bytes

-- where the first byte stops it, the front is empty
pub IsPassingBytes-none : (test : ℕ → Bool → Type 0) (text : List ℕ) → StopsAtByte test text
    → IsPassingBytes test text [] text
IsPassingBytes-none test text stops = record { pass = tt; split = refl; stops = stops }

-- a byte that passes goes before the front
pub IsPassingBytes-more : (test : ℕ → Bool → Type 0) (text behind front rest : List ℕ) (b : ℕ)
    → text ≡ b ∷ behind → test b true → IsPassingBytes test behind front rest
    → IsPassingBytes test text (b ∷ front) rest
IsPassingBytes-more test text behind front rest b cut passes more =
    record { pass = (passes, more.pass); split = cut ∙ ap (λ x. b ∷ x) more.split; stops = more.stops }

-- the byte at a place is the first of what follows from there, in a copy of the text too
pub drop_at : (bytes text : List ℕ) (i : ℕ) → bytes ≡ text → i < length text
    → drop i text ≡ get_or bytes i 0 ∷ drop (i + 1) text
drop_at bytes text i same inside = let more = drop_more text i 0 inside in cc

-- a byte that passes is ASCII
pub passing_is_ascii : (test : ℕ → Bool → Type 0) (b : ℕ) → PassesOnlyAscii test → b < 256 → test b true → b < 128
passing_is_ascii test b only fits passes = let no : ¬ (128 ≤ b) = λ high. only b high fits passes in omega arith

-- what stands before the same rest is the same
pub same_front : (text front other rest : List ℕ) → text ≡ front ++ rest → text ≡ other ++ rest → front ≡ other
same_front text front other rest cut otherwise = append_cancel_right front other rest (sym cut ∙ otherwise)

-- the rest may be named otherwise
pub IsPassingBytes-rest : (test : ℕ → Bool → Type 0) (text front rest other : List ℕ) → other ≡ rest
    → IsPassingBytes test text front rest → IsPassingBytes test text front other
IsPassingBytes-rest test text front rest other same passing =
    subst (λ x. IsPassingBytes test text front x) (sym same) passing

-- what stands before the rest is the front
pub IsPassingBytes-front : (test : ℕ → Bool → Type 0) (text front other rest : List ℕ) → text ≡ other ++ rest
    → IsPassingBytes test text front rest → IsPassingBytes test text other rest
IsPassingBytes-front test text front other rest cut passing =
    subst (λ x. IsPassingBytes test text x rest) (same_front text front other rest passing.split cut) passing

-- ---- characters of a list

-- `any` says whether the list has the character
pub contains_from_any : (r : Bool) (xs : List ℕ) (c : ℕ)
    → MatchBool r ((k : ℕ) × (k < length xs) × HoldsAt (λ y. y ≡ c) xs k) (AllWithin (λ y. y ≢ c) xs 0 (length xs))
    → IsTrue r ↔ Contains xs c
contains_from_any r xs c found = (
  elim r as (λ r. MatchBool r ((k : ℕ) × (k < length xs) × HoldsAt (λ y. y ≡ c) xs k)
      (AllWithin (λ y. y ≢ c) xs 0 (length xs))
      → IsTrue r → Contains xs c)
      [ true ↦ λ at said. Contains-from_at xs c at | false ↦ λ none said. absurd (search rules) ] found,
  λ has. search (rules, true_from_Any (λ y. y ≡ c) (λ y. y ≢ c) r xs (λ y same other. other same) found c has refl),
)

-- a text begins with one character alone
pub first_char_is_one : (text rest behind : List ℕ) (c d : ℕ) → IsUtf8 text → text ≡ encode_utf8 c ++ rest
    → text ≡ encode_utf8 d ++ behind → c ≡ d
first_char_is_one text rest behind c d utf8 cut other =
    let at_c = chars_past_char text rest c utf8 cut in
    let at_d = chars_past_char text behind d utf8 other in
    cc

-- the empty text begins with none
pub nothing_begins_empty : (text rest : List ℕ) (c : ℕ) → text ≡ [] → text ≡ encode_utf8 c ++ rest → ⊥
nothing_begins_empty text rest c ended cut =
    let shorter = behind_is_shorter text rest c cut in
    let none : length text ≡ 0 = ap length ended in
    omega arith
