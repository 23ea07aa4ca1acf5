-- What holds of a builder at all times.
use Rattle.std.proofs.Common.{◌≡◌, ◌+◌, ◌-◌, ◌≤◌, ℕ, List, [], ◌∷◌, ◌++◌, length, take, drop, ap, sym, subst, refl, ◌∙◌, arith, length-append, length-drop}
use Rattle.std.proofs.lemmas.List.{drop_all, drop-append-le, take-append-drop, take-append-le}
use Rattle.std.specs.List.{IsDistinct}
use Rattle.graph_builder.specs.Reach.{Specifier, Log, Answers, Rules}
use Rattle.graph_builder.specs.Events.{Event, asked_of, log_of}
use Rattle.graph_builder.specs.Builder.{last_of, before_last, IsAsking, IsToldLog, IsOwn, IsKept}

-- ---- the last of a list

-- none
pub last_of-zero : {A : Type 0} → (xs : List A) → last_of 0 xs ≡ []
last_of-zero xs = drop_all (length xs - 0) xs (omega arith)

-- those and what came after
pub last_of-more : {A : Type 0} (n : ℕ) (xs more : List A) → n ≤ length xs
    → last_of (n + length more) (xs ++ more) ≡ last_of n xs ++ more
last_of-more n xs more fits =
    ap (λ k. drop k (xs ++ more)) (count (length-append xs more)) ∙ drop-append-le (length xs - n) xs more (omega arith)
  where
    count : length (xs ++ more) ≡ length xs + length more → length (xs ++ more) - (n + length more) ≡ length xs - n
    count h = omega arith

-- one more
pub last_of-push : {A : Type 0} (n m : ℕ) (xs : List A) (x : A) → n ≤ length xs → m ≡ n + 1
    → last_of m (xs ++ x ∷ []) ≡ last_of n xs ++ x ∷ []
last_of-push n m xs x fits is = ap (λ k. last_of k (xs ++ x ∷ [])) is ∙ last_of-more n xs (x ∷ []) fits

pub length-last_of : {A : Type 0} (n : ℕ) (xs : List A) → n ≤ length xs → length (last_of n xs) ≡ n
length-last_of n xs fits = length-drop (length xs - n) xs ∙ omega arith

-- what stands before them, and then they
pub before_last-last : {A : Type 0} (n : ℕ) (xs : List A) → before_last n xs ++ last_of n xs ≡ xs
before_last-last n xs = take-append-drop (length xs - n) xs

pub before_last-more : {A : Type 0} (n : ℕ) (xs more : List A) → n ≤ length xs
    → before_last (n + length more) (xs ++ more) ≡ before_last n xs
before_last-more n xs more fits =
    ap (λ k. take k (xs ++ more)) (count (length-append xs more)) ∙ take-append-le (length xs - n) xs more (omega arith)
  where
    count : length (xs ++ more) ≡ length xs + length more → length (xs ++ more) - (n + length more) ≡ length xs - n
    count h = omega arith

pub before_last-push : {A : Type 0} (n m : ℕ) (xs : List A) (x : A) → n ≤ length xs → m ≡ n + 1
    → before_last m (xs ++ x ∷ []) ≡ before_last n xs
before_last-push n m xs x fits is = ap (λ k. before_last k (xs ++ x ∷ [])) is ∙ before_last-more n xs (x ∷ []) fits

-- ---- a new builder

pub kept_new : (rules : Rules) (starts : List Specifier) (events : List Event) (told : Answers)
    → IsKept rules starts events told 0 0
unfolding IsDistinct
kept_new rules starts events told = record {
  fits = omega arith;
  own = subst (λ (own : List Event). IsOwn rules starts own told 0 0) (sym (last_of-zero events)) (record {
    asked_counted = refl;
    taken_counted = refl;
    behind = omega arith;
    asking = record { once = tt; loads = λ s h. cc; reached = λ s h. absurd cc };
    as_told = λ s a b h. absurd cc;
  });
}

-- what holds of a builder's own events, by its requests and its answers
pub own_of : (rules : Rules) (starts : List Specifier) (own : List Event) (told : Answers) (asked : List Specifier)
    (log : Log) (n m : ℕ)
    → asked_of own ≡ asked → log_of own ≡ log → length asked ≡ n → length log ≡ m → m ≤ n + 1
    → IsAsking rules starts asked log → IsToldLog told log
    → IsOwn rules starts own told n m
own_of rules starts own told asked log n m asks gave many answers behind asking as_told = record {
  asked_counted = ap length asks ∙ many;
  taken_counted = ap length gave ∙ answers;
  behind = behind;
  asking = subst (λ (a : List Specifier). IsAsking rules starts a (log_of own)) (sym asks)
      (subst (λ (l : Log). IsAsking rules starts asked l) (sym gave) asking);
  as_told = subst (λ (l : Log). IsToldLog told l) (sym gave) as_told;
}
