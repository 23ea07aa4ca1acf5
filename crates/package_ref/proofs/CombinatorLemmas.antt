-- What the combinators of the grammar answer is what reading from left to right reads.
use Rattle.std.proofs.Common.{◌≡◌, ◌≢◌, ◌∙◌, sym, ap, subst, refl, ℕ, zero, suc, ◌+◌, ◌/◌, ◌%◌, ◌<◌, ◌≤◌, nat_eq, nat_lt, Bool, true, false, not, ◌&&◌, ◌==◌, ◌⊎◌, inl, inr, List, [], ◌∷◌, ◌++◌, length, take, drop, arith}
use Rattle.std.specs.Prelude.{Option, Some, None, ⊤}
use Rattle.std.specs.Borrow.{Bor}
use Rattle.std.specs.List.{AllPass, list_all}
use Rattle.std.specs.Str.{encode_utf8_all}
use Rattle.std.proofs.lemmas.List.{append_assoc, append_cancel_right, append-nil}
use Rattle.std.proofs.lemmas.List.Sums.{AllPass-from_list_all}
use Rattle.std.proofs.lemmas.Bool.{cases_Bool, cases_lt, ltb-true, ltb-false, lt-ltb, le-ltb, eqb-true, ne_eqb}
use Rattle.std.proofs.lemmas.Str.{encode_ascii}
use lib.Utf8.{encode}
use Rattle.monch.specs.core_parsers.Outcome.{Refusal, Outcome, Meaning, success, refused, backtrack, failure, no_memory}
use Rattle.monch.specs.Leaves.{GivesChar, BeginsWith, EachPasses, StopsAtChar, IsPassingFront, GivesTakeWhile}
use Rattle.monch.specs.Parts.{GivesPair, GivesPreceded, GivesFirst, GivesMaybe, GivesSubstring, GivesIf, IsSettled}
use Rattle.package_ref.specs.declared.reference.PackageKind.TheVariants.{Npm}
use Rattle.package_ref.specs.Reference.{IsRun, is_of_part, is_no_slash}
use Rattle.package_ref.specs.Steps.{Read, ◌>>=◌, or_else, maybe, both, behind, read_char, read_run, read_part, read_scope_and_part, read_scoped, Tells, TellsMaybe, bytes_of}
use Rattle.package_ref.proofs.ReferenceLemmas.{Stops, both_left, both_right}
use Rattle.package_ref.proofs.StepsLemmas.{read_char-there, read_run-run, read_run_is, read_char-other, read_scoped_is}

-- a meaning tells a reading on each text
abbrev pub TellsAll : {A B : Type 0} → (A → B) → (List ℕ → Read B) → Meaning A → Type 0
TellsAll {A} view read meaning = (text : List ℕ) (outcome : Outcome A) → meaning text outcome
    → Tells view (read text) outcome

-- a backtrack tells that nothing is read
refused_tells : {A B : Type 0} (view : A → B) (read : Read B) (why : Refusal) → why ≡ backtrack → read ≡ None
    → Tells {A = A} view read (refused why)
refused_tells view read backtrack is none = none
refused_tells view read (failure input message) is none = cc is
refused_tells view read no_memory is none = cc is

-- ---- one character

read_char-none : (c : ℕ) (text : List ℕ) → ((rest : List ℕ) → text ≢ c ∷ rest) → read_char c text ≡ None
read_char-none c [] other = refl
read_char-none c (b ∷ text) other = read_char-other c b text (λ e. other text (ap (λ x. x ∷ text) e))

pub char_tells : (c : ℕ) → c < 128 → TellsAll (λ (x : ℕ). x) (read_char c) (GivesChar c)
char_tells c small text (success rest value) given =
    let whole : text ≡ c ∷ rest = given.1 ∙ ap (λ t. t ++ rest) (encode_ascii c small) in
    rw (whole, given.0) (read_char-there c rest)
char_tells c small text (refused why) given =
    refused_tells (λ (x : ℕ). x) (read_char c text) why given.0
    (read_char-none c text (λ rest e. given.1 (rest, e ∙ ap (λ t. t ++ rest) (sym (encode_ascii c small)))))

-- ---- runs

-- the test passes every byte that is no ASCII
abbrev pub PassesHigh : (ℕ → Bool) → Type 0
PassesHigh p = (b : ℕ) → 128 ≤ b → p b ≡ true

list_all-append : (p : ℕ → Bool) (xs ys : List ℕ) → list_all p xs ≡ true → list_all p ys ≡ true
    → list_all p (xs ++ ys) ≡ true
list_all-append p [] ys of_x of_y = of_y
list_all-append p (x ∷ xs) ys of_x of_y =
    rw (both_left (p x) _ of_x, list_all-append p xs ys (both_right (p x) _ of_x) of_y) refl

-- the bytes of a character that passes pass
encode-passes : (p : ℕ → Bool) → PassesHigh p → (c : ℕ) → p c ≡ true → list_all p (encode c) ≡ true
unfolding encode
encode-passes p high c passes = elim (cases_lt c 128) [
  | inl small ↦ rw (encode_ascii c small, passes) refl
  | inr big ↦
      let one : nat_lt c 128 ≡ false = le-ltb c 128 big in
      let first : (n : ℕ) → p (192 + n) ≡ true = λ n. high (192 + n) (omega arith) in
      let third : (n : ℕ) → p (224 + n) ≡ true = λ n. high (224 + n) (omega arith) in
      let fourth : (n : ℕ) → p (240 + n) ≡ true = λ n. high (240 + n) (omega arith) in
      let later : (n : ℕ) → p (128 + n) ≡ true = λ n. high (128 + n) (omega arith) in
      elim (cases_Bool (nat_lt c 2048)) [
        | inl two ↦ rw (one, two, first, later) refl
        | inr more ↦ elim (cases_Bool (nat_lt c 65536)) [
          | inl three ↦ rw (one, more, three, third, later (c / 64 % 64), later (c % 64)) refl
          | inr four ↦ rw (one, more, four, fourth, later (c / 4096 % 64), later (c / 64 % 64), later (c % 64)) refl
        ]
      ]
]

encodes-pass : (p : ℕ → Bool) (test : ℕ → Bool → Type 0) → PassesHigh p → ((c : ℕ) (b : Bool) → test c b → b ≡ p c)
    → (cs : List ℕ) → EachPasses test cs → list_all p (encode_utf8_all cs) ≡ true
encodes-pass p test high says [] each = refl
encodes-pass p test high says (c ∷ cs) each =
    list_all-append p (encode c) (encode_utf8_all cs) (encode-passes p high c (sym (says c true each.0)))
    (encodes-pass p test high says cs each.1)

no_test : (b : Bool) → b ≡ true → b ≡ false → ⊥
no_test b passed failed = cc

stop_at : (p : ℕ → Bool) (test : ℕ → Bool → Type 0) → PassesHigh p → ((c : ℕ) (b : Bool) → test c b → b ≡ p c)
    → (text : List ℕ) → StopsAtChar test text → Stops p text
stop_at p test high says text (inl e) = subst (Stops p) (sym e) tt
stop_at p test high says text (inr (c, rest, e, stopped)) = elim (cases_lt c 128) [
  | inl small ↦
      let whole : text ≡ c ∷ rest = e ∙ ap (λ t. t ++ rest) (encode_ascii c small) in
      subst (Stops p) (sym whole) (sym (says c false stopped))
  | inr big ↦ absurd (no_test (p c) (high c big) (sym (says c false stopped)))
]

-- ---- runs

-- the longest front of characters that pass is a run, or empty
record IsFront (p : ℕ → Bool) (text front rest : List ℕ) : Type 0 where
  pub all : list_all p front ≡ true
  pub whole : text ≡ front ++ rest
  pub stops : Stops p rest

front_is : (p : ℕ → Bool) (test : ℕ → Bool → Type 0) → PassesHigh p → ((c : ℕ) (b : Bool) → test c b → b ≡ p c)
    → (text front rest : List ℕ) → IsPassingFront test text front rest → IsFront p text front rest
front_is p test high says text front rest given = record {
  all = rw given.spelled (encodes-pass p test high says given.characters given.pass);
  whole = given.split;
  stops = stop_at p test high says rest given.stops;
}

nonzero : (n : ℕ) → nat_eq n 0 ≡ false → 0 < n
nonzero zero e = cc e
nonzero (suc n) e = omega arith

-- no run is read where the text stops it
read_run-none : (p : ℕ → Bool) (text : List ℕ) → Stops p text → read_run p text ≡ None
unfolding read_run
read_run-none p [] stops = refl
read_run-none p (b ∷ text) stops = rw stops refl

-- a run is read where the front isn't empty
some_front : (p : ℕ → Bool) (text front rest : List ℕ) → IsFront p text front rest → nat_eq (length front) 0 ≡ false
    → read_run p text ≡ Some (front, rest)
some_front p text front rest given some =
    let run : IsRun p front =
    record { some = nonzero (length front) some; all = AllPass-from_list_all p front given.all } in
    rw given.whole (read_run-run p front rest run given.stops)

positive : (n : ℕ) → nat_eq (suc n) 0 ≡ true → ⊥
positive n e = let same : suc n ≡ 0 = eqb-true (suc n) 0 e in absurd (omega arith)

-- and none where it is
no_front : (p : ℕ → Bool) (text front rest : List ℕ) → IsFront p text front rest → nat_eq (length front) 0 ≡ true
    → read_run p text ≡ None
no_front p text [] rest given none = rw given.whole (read_run-none p rest given.stops)
no_front p text (b ∷ front) rest given none = absurd (positive (length front) none)

-- the longest front of characters that pass, if it isn't empty
pub run_tells : (p : ℕ → Bool) (test : ℕ → Bool → Type 0) → PassesHigh p → ((c : ℕ) (b : Bool) → test c b → b ≡ p c)
    → TellsAll bytes_of (read_run p)
    (GivesIf (GivesTakeWhile test) (λ (value : Bor (List ℕ)) some. nat_eq (length value.now) 0 ≡ not some))
run_tells p test high says text (success rest value) given =
    some_front p text value.now rest (front_is p test high says text value.now rest given.0) given.1
run_tells p test high says text (refused why) (inl given) = absurd given
run_tells p test high says text (refused why) (inr given) =
    refused_tells bytes_of (read_run p text) why given.0
    (no_front p text given.2.now given.1 (front_is p test high says text given.2.now given.1 given.3) given.4)

-- ---- two combinators

-- a refusal that tells a reading tells it of what follows
pub refused_then : {A B C D : Type 0} (view : A → B) (other : C → D) (read : Read B) (next : B → List ℕ → Read D)
    (why : Refusal)
    → Tells view read (refused why) → Tells other (read >>= next) (refused why)
refused_then view other read next backtrack tells = rw tells refl
refused_then view other read next (failure input message) tells = absurd tells
refused_then view other read next no_memory tells = absurd tells

-- equal readings are told alike
pub tells_same : {A B : Type 0} (view : A → B) (read other : Read B) → read ≡ other → (outcome : Outcome A)
    → Tells view other outcome → Tells view read outcome
tells_same {A} {B} view read other e outcome tells =
    let P : Read B → Type 0 = λ r. Tells view r outcome in subst P (sym e) tells

pub behind_tells : {A B C D : Type 0} (view : A → B) (other : C → D) (first : List ℕ → Read B)
    (second : List ℕ → Read D)
    (P : Meaning A) (Q : Meaning C) → TellsAll view first P → TellsAll other second Q
    → TellsAll other (behind first second) (GivesPreceded P Q)
behind_tells {A} {B} {C} {D} view other first second P Q of_first of_second text (success rest value) given =
    let one : first text ≡ Some (view given.1, given.0) = of_first text (success given.0 given.1) given.2 in
    rw one (of_second given.0 (success rest value) given.3)
behind_tells {A} {B} {C} {D} view other first second P Q of_first of_second text (refused why) (inl given) =
    refused_then view other (first text) (λ x rest. second rest) why (of_first text (refused why) given)
behind_tells {A} {B} {C} {D} view other first second P Q of_first of_second text (refused why) (inr given) =
    let one : first text ≡ Some (view given.1, given.0) = of_first text (success given.0 given.1) given.2 in
    tells_same other (behind first second text) (second given.0)
    (ap (λ (r : Read B). r >>= (λ x rest. second rest)) one) (refused why)
    (of_second given.0 (refused why) given.3)

pub both_tells : {A B C D : Type 0} (view : A → B) (other : C → D) (first : List ℕ → Read B) (second : List ℕ → Read D)
    (P : Meaning A) (Q : Meaning C) → TellsAll view first P → TellsAll other second Q
    → TellsAll (λ (v : A × C). (view v.0, other v.1)) (both first second) (GivesPair P Q)
both_tells {A} {B} {C} {D} view other first second P Q of_first of_second text (success rest value) given =
    let one : first text ≡ Some (view value.0, given.0) = of_first text (success given.0 value.0) given.1 in
    let two : second given.0 ≡ Some (other value.1, rest) = of_second given.0 (success rest value.1) given.2 in
    rw (one, two) refl
both_tells {A} {B} {C} {D} view other first second P Q of_first of_second text (refused why) (inl given) =
    refused_then view (λ (v : A × C). (view v.0, other v.1)) (first text)
    (λ x rest. second rest >>= λ y rest. Some ((x, y), rest)) why
    (of_first text (refused why) given)
both_tells {A} {B} {C} {D} view other first second P Q of_first of_second text (refused why) (inr given) =
    let one : first text ≡ Some (view given.1, given.0) = of_first text (success given.0 given.1) given.2 in
    let pairs : A × C → B × D = λ (v : A × C). (view v.0, other v.1) in
    tells_same pairs (both first second text) (second given.0 >>= λ y rest. Some ((view given.1, y), rest))
    (ap (λ (r : Read B). r >>= (λ x rest. second rest >>= λ y rest. Some ((x, y), rest))) one) (refused why)
    (refused_then other pairs (second given.0) (λ y rest. Some ((view given.1, y), rest)) why
    (of_second given.0 (refused why) given.3))

-- ---- choices

pub or_tells : {A B : Type 0} (view : A → B) (first second : List ℕ → Read B) (P Q : Meaning A)
    → TellsAll view first P → TellsAll view second Q
    → TellsAll view (λ text. or_else (first text) (second text)) (GivesFirst (P ∷ Q ∷ []))
or_tells view first second P Q of_first of_second text (success rest value) (inl given) =
    let one : first text ≡ Some (view value, rest) = of_first text (success rest value) given.0 in rw one refl
or_tells view first second P Q of_first of_second text (refused backtrack) (inl given) = absurd given.1
or_tells view first second P Q of_first of_second text (refused (failure input message)) (inl given) =
    absurd (of_first text (refused (failure input message)) given.0)
or_tells view first second P Q of_first of_second text (refused no_memory) (inl given) =
    absurd (of_first text (refused no_memory) given.0)
or_tells {A} {B} view first second P Q of_first of_second text outcome (inr (none, inl given)) =
    let one : first text ≡ None = of_first text (refused backtrack) none in
    tells_same view (or_else (first text) (second text)) (second text)
    (ap (λ (r : Read B). or_else r (second text)) one) outcome
    (of_second text outcome given.0)
or_tells {A} {B} view first second P Q of_first of_second text outcome (inr (none, inr (other, is))) =
    let one : first text ≡ None = of_first text (refused backtrack) none in
    let two : second text ≡ None = of_second text (refused backtrack) other in
    let both_none : or_else (first text) (second text) ≡ None = rw (one, two) refl in
    let P : Outcome A → Type 0 = λ o. Tells view (or_else (first text) (second text)) o in
    subst P (sym is) both_none

pub maybe_tells : {A B : Type 0} (view : A → B) (first : List ℕ → Read B) (P : Meaning A) → TellsAll view first P
    → (text : List ℕ) (outcome : Outcome (Option A)) → GivesMaybe P text outcome
    → TellsMaybe view (maybe (first text) text) outcome
maybe_tells view first P of_first text (success rest (Some value)) given =
    let one : first text ≡ Some (view value, rest) = of_first text (success rest value) given in rw one refl
maybe_tells view first P of_first text (success rest None) given =
    let one : first text ≡ None = of_first text (refused backtrack) given.0 in rw (one, given.1) refl
maybe_tells view first P of_first text (refused backtrack) given = given
maybe_tells view first P of_first text (refused (failure input message)) given =
    of_first text (refused (failure input message)) given
maybe_tells view first P of_first text (refused no_memory) given = of_first text (refused no_memory) given

-- ---- the grammar

-- a name with its scope, as a slice
pub scoped_tells : {A : Type 0} (view : A → List ℕ × List ℕ) (P : Meaning A) → TellsAll view read_scope_and_part P
    → TellsAll bytes_of read_scoped (GivesSubstring P)
unfolding read_scoped
scoped_tells view P of_parts text (success rest taken) given =
    let parts : read_scope_and_part text ≡ Some (view given.0, rest) = of_parts text (success rest given.0) given.1 in
    let name : List ℕ = 64 ∷ (view given.0).0 ++ 47 ∷ (view given.0).1 in
    let whole : read_scoped text ≡ Some (name, rest) = rw parts refl in
    let cut = read_scoped_is Npm text name rest whole in
    let same : name ≡ taken.now = append_cancel_right name taken.now rest (sym cut.whole ∙ given.2) in
    whole ∙ ap (λ (t : List ℕ). let r : Read (List ℕ) = Some (t, rest) in r) same
scoped_tells view P of_parts text (refused why) given =
    refused_then view bytes_of (read_scope_and_part text) (λ name rest. Some (64 ∷ name.0 ++ 47 ∷ name.1, rest)) why
    (of_parts text (refused why) given)

nothing_left : (p : ℕ → Bool) (text : List ℕ) → ((b : ℕ) → p b ≡ true) → Stops p text → text ≡ []
nothing_left p [] all stops = refl
nothing_left p (b ∷ text) all stops = absurd (no_test (p b) (all b) stops)

-- all that is left, as a slice
pub rest_tells : (test : ℕ → Bool → Type 0) → ((c : ℕ) (b : Bool) → test c b → b ≡ true)
    → TellsAll bytes_of (λ rest. Some (rest, [])) (GivesTakeWhile test)
rest_tells test says text (success rest taken) given =
    let front = front_is (λ b. true) test (λ b high. refl) says text taken.now rest given in
    let none = nothing_left (λ b. true) rest (λ b. refl) front.stops in
    let all : text ≡ taken.now = front.whole ∙ ap (λ t. taken.now ++ t) none ∙ append-nil taken.now in
    rw (all, none) refl
rest_tells test says text (refused why) given = absurd given

-- ---- the tests

high_differs : (b c : ℕ) → c < 128 → 128 ≤ b → not (b == c) ≡ true
high_differs b c small high = let other : (b == c) ≡ false = ne_eqb b c (λ e. omega arith) in rw other refl

pub part_passes_high : PassesHigh is_of_part
part_passes_high b high = rw (high_differs b 47 (omega arith) high, high_differs b 64 (omega arith) high) refl

pub no_slash_passes_high : PassesHigh is_no_slash
no_slash_passes_high b high = high_differs b 47 (omega arith) high

-- the character that a combinator holds
pub char_at : (c d : ℕ) → d ≡ c → c < 128 → TellsAll (λ (x : ℕ). x) (read_char c) (GivesChar d)
char_at c d is small = let P : ℕ → Type 0 = λ x. TellsAll (λ (y : ℕ). y) (read_char c) (GivesChar x) in
    subst P (sym is) (char_tells c small)

-- a front of characters that pass the test, if it isn't empty
abbrev pub GivesRun : (ℕ → Bool → Type 0) → Meaning (Bor (List ℕ))
GivesRun test text outcome =
    GivesIf (GivesTakeWhile test) (λ (value : Bor (List ℕ)) some. nat_eq (length value.now) 0 ≡ not some) text outcome

-- what a test that says whether a character may stand in a part is
abbrev pub TestsPart : (ℕ → Bool → Type 0) → Type 0
TestsPart test = (c : ℕ) (b : Bool) → test c b → b ≡ is_of_part c

-- the combinator of a scoped name, from the characters that it holds and its tests
pub scoped_name_tells : (at slash : ℕ) (test other : ℕ → Bool → Type 0) → at ≡ 64 → slash ≡ 47 → TestsPart test
    → TestsPart other
    → TellsAll bytes_of read_scoped
    (GivesSubstring (GivesPair (GivesPreceded (GivesChar at) (GivesRun test))
    (GivesPreceded (GivesChar slash) (GivesRun other))))
scoped_name_tells at slash test other is also says says_too =
    scoped_tells (λ (v : Bor (List ℕ) × Bor (List ℕ)). (v.0.now, v.1.now)) _
    (both_tells bytes_of bytes_of (behind (read_char 64) read_part) (behind (read_char 47) read_part) _ _
    (behind_tells (λ (x : ℕ). x) bytes_of (read_char 64) read_part _ _ (char_at 64 at is (omega arith))
    (run_tells is_of_part test part_passes_high says))
    (behind_tells (λ (x : ℕ). x) bytes_of (read_char 47) read_part _ _ (char_at 47 slash also (omega arith))
    (run_tells is_of_part other part_passes_high says_too)))
