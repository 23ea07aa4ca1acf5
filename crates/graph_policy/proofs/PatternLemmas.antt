-- Patterns part by part: what the search for each part says of the whole.
use Rattle.std.proofs.Common.{◌≡◌, ◌∙◌, sym, ap, refl, ⊎_elim, ◌⊎◌, inl, inr, ℕ, zero, suc, ◌+◌, ◌-◌, ◌<◌, ◌≤◌, Bool, true, false, ◌&&◌, ◌||◌, List, [], ◌∷◌, ◌++◌, length, take, drop, arith, append-nil, length-take-le}
use Rattle.std.specs.Prelude.{◌==◌, bytes_eq, Some, None, MatchBool}
use Rattle.std.specs.Str.Pattern.{LacksTextAt, FindsTextSuffix, HasSuffixMatch}
use Rattle.std.proofs.lemmas.Bool.{false≢true, and_parts, or_cases, or_left, or_right, cond-false, eq-eqb, eqb-true, ne_eqb, cases_lt, false_from_ne_true}
use Rattle.std.proofs.lemmas.List.{take-append-drop, drop_at, drop-drop}
use Rattle.graph_policy.specs.Pattern.{is_empty, after_byte, some_end, matches}
use Rattle.graph_policy.specs.Steps.{HasNoStar, after_text, IsAfterFirst}

bool_same : (a b : Bool) → (a ≡ true → b ≡ true) → (b ≡ true → a ≡ true) → a ≡ b
bool_same true b f g = sym (f refl)
bool_same false true f g = g refl
bool_same false false f g = refl

-- ---- ends of a text

here_or_later : (test : List ℕ → Bool) (b : ℕ) (text : List ℕ)
    → (some_end test text ≡ true → (k : ℕ) × (k ≤ length text) × (test (drop k text) ≡ true))
    → (test (b ∷ text) ≡ true) ⊎ (some_end test text ≡ true)
    → (k : ℕ) × (k ≤ length (b ∷ text)) × (test (drop k (b ∷ text)) ≡ true)
here_or_later test b text rest (inl e) = (0, omega arith, e)
here_or_later test b text rest (inr e) = let r = rest e in (suc r.0, omega (arith, r.1), r.2)

pub some_end_at : (test : List ℕ → Bool) (text : List ℕ) → some_end test text ≡ true
    → (k : ℕ) × (k ≤ length text) × (test (drop k text) ≡ true)
some_end_at test [] e = (0, omega arith, e)
some_end_at test (b ∷ text) e =
    here_or_later test b text (some_end_at test text) (or_cases (test (b ∷ text)) (some_end test text) e)

pub some_end_from : (test : List ℕ → Bool) (text : List ℕ) (k : ℕ) → test (drop k text) ≡ true
    → some_end test text ≡ true
some_end_from test [] zero e = e
some_end_from test [] (suc k) e = e
some_end_from test (b ∷ text) zero e = or_left _ _ e
some_end_from test (b ∷ text) (suc k) e = or_right _ _ (some_end_from test text k e)

-- an end of an end is an end
some_end_later : (test : List ℕ → Bool) (text : List ℕ) (k : ℕ) → some_end test (drop k text) ≡ true
    → some_end test text ≡ true
some_end_later test text k e =
    let r = some_end_at test (drop k text) e in
    some_end_from test text (k + r.0) (ap test (sym (drop-drop r.0 k text)) ∙ r.2)

some_end_same : (f g : List ℕ → Bool) → ((t : List ℕ) → f t ≡ g t) → (text : List ℕ) → some_end f text ≡ some_end g text
some_end_same f g same [] = same []
some_end_same f g same (b ∷ text) = λ i. same (b ∷ text) i || some_end_same f g same text i

-- ---- a front

after_byte_same : (c : ℕ) (f g : List ℕ → Bool) → ((t : List ℕ) → f t ≡ g t) → (text : List ℕ)
    → after_byte c f text ≡ after_byte c g text
after_byte_same c f g same [] = refl
after_byte_same c f g same (b ∷ text) = ap (λ r. (b == c) && r) (same text)

after_text_at : (front : List ℕ) (test : List ℕ → Bool) (rest : List ℕ)
    → after_text front test (front ++ rest) ≡ test rest
after_text_at [] test rest = refl
after_text_at (c ∷ front) test rest =
    ap (λ b. b && after_text front test (front ++ rest)) (eq-eqb c c refl) ∙ after_text_at front test rest

after_text_rest : (front : List ℕ) (test : List ℕ → Bool) (text : List ℕ) → after_text front test text ≡ true
    → (rest : List ℕ) × (text ≡ front ++ rest) × (test rest ≡ true)
after_text_rest [] test text e = (text, refl, e)
after_text_rest (c ∷ front) test [] e = absurd (false≢true e)
after_text_rest (c ∷ front) test (b ∷ text) e =
    let k = and_parts (b == c) (after_text front test text) e in
    let r = after_text_rest front test text k.1 in
    (r.0, (λ i. eqb-true b c k.0 i ∷ r.1 i), r.2)

-- ---- the first front

-- what follows a front that is at place i
past : (front behind text : List ℕ) (i : ℕ) → drop i text ≡ front ++ behind → behind ≡ drop (i + length front) text
past front behind text i at =
    sym (drop_at front behind (length front) refl) ∙ ap (drop (length front)) (sym at) ∙ drop-drop (length front) i text

later_is_end : (front behind rest text : List ℕ) (i j : ℕ) → drop i text ≡ front ++ behind → drop j text ≡ front ++ rest
    → i ≤ j → drop (j - i) behind ≡ rest
later_is_end front behind rest text i j at later le =
    let same : i + length front + (j - i) ≡ j + length front = omega (arith, le) in
    ap (drop (j - i)) (past front behind text i at) ∙ drop-drop (j - i) (i + length front) text
    ∙ ap (λ n. drop n text) same ∙ sym (past front rest text j later)

pub first_found : (front behind text : List ℕ) (i : ℕ) → drop i text ≡ front ++ behind
    → ((k : ℕ) → k < i → LacksTextAt front text k) → IsAfterFirst front text (Some behind)
first_found front behind text i at lacks test = bool_same _ _ there back
  where
    there : some_end (after_text front (some_end test)) text ≡ true → some_end test behind ≡ true
    there e =
        let r = some_end_at (after_text front (some_end test)) text e in
        let p = after_text_rest front (some_end test) (drop r.0 text) r.2 in
        let late : i ≤ r.0 = ⊎_elim (λ l. absurd (lacks r.0 l p.0 p.1)) (λ m. m) (cases_lt r.0 i) in
        some_end_later test behind (r.0 - i)
        (ap (some_end test) (later_is_end front behind p.0 text i r.0 at p.1 late) ∙ p.2)

    back : some_end test behind ≡ true → some_end (after_text front (some_end test)) text ≡ true
    back e =
        some_end_from (after_text front (some_end test)) text i
        (ap (after_text front (some_end test)) at ∙ after_text_at front (some_end test) behind ∙ e)

pub none_found : (front text : List ℕ) → ((k : ℕ) → k ≤ length text → LacksTextAt front text k)
    → IsAfterFirst front text None
none_found front text lacks test = false_from_ne_true _ λ e.
    let r = some_end_at (after_text front (some_end test)) text e in
    let p = after_text_rest front (some_end test) (drop r.0 text) r.2 in
    lacks r.0 r.1 p.0 p.1

-- ---- patterns

no_star_first : (c : ℕ) (front : List ℕ) → HasNoStar (c ∷ front) → (c == 42) ≡ false
no_star_first c front starless = ne_eqb c 42 (starless 0 (omega arith))

no_star_rest : (c : ℕ) (front : List ℕ) → HasNoStar (c ∷ front) → HasNoStar front
no_star_rest c front starless k l = starless (suc k) (omega (arith, l))

-- up to its first `*` a pattern is a front
matches_split : (front rest : List ℕ) → HasNoStar front → (text : List ℕ)
    → matches (front ++ (42 ∷ rest)) text ≡ after_text front (some_end (matches rest)) text
unfolding matches
matches_split [] rest starless text = refl
matches_split (c ∷ front) rest starless text =
    cond-false (c == 42) _ _ (no_star_first c front starless)
    ∙ after_byte_same c (matches (front ++ (42 ∷ rest))) (after_text front (some_end (matches rest)))
    (matches_split front rest (no_star_rest c front starless)) text

matches_plain : (front : List ℕ) → HasNoStar front → (text : List ℕ)
    → matches front text ≡ after_text front is_empty text
unfolding matches
matches_plain [] starless text = refl
matches_plain (c ∷ front) starless text =
    cond-false (c == 42) _ _ (no_star_first c front starless)
    ∙ after_byte_same c (matches front) (after_text front is_empty)
    (matches_plain front (no_star_rest c front starless)) text

same_plain : (front text : List ℕ) → bytes_eq text front ≡ after_text front is_empty text
same_plain [] [] = refl
same_plain [] (b ∷ text) = refl
same_plain (c ∷ front) [] = refl
same_plain (c ∷ front) (b ∷ text) = ap (λ r. (b == c) && r) (same_plain front text)

pub equal_is : (front text : List ℕ) → HasNoStar front → bytes_eq text front ≡ matches front text
equal_is front text starless = same_plain front text ∙ sym (matches_plain front starless text)

pub empty_nil : (text : List ℕ) → is_empty text ≡ true → text ≡ []
empty_nil [] e = refl
empty_nil (b ∷ text) e = absurd (false≢true e)

plain_only : (front text : List ℕ) → HasNoStar front → matches front text ≡ true → text ≡ front
plain_only front text starless e =
    let r = after_text_rest front is_empty text (sym (matches_plain front starless text) ∙ e) in
    r.1 ∙ ap (λ l. front ++ l) (empty_nil r.0 r.2) ∙ append-nil front

plain_self : (front : List ℕ) → HasNoStar front → matches front front ≡ true
plain_self front starless =
    matches_plain front starless front ∙ ap (after_text front is_empty) (sym (append-nil front))
    ∙ after_text_at front is_empty []

-- an end without a `*`
pub ends_is : (r : Bool) (front text : List ℕ) → HasNoStar front
    → MatchBool r (HasSuffixMatch (FindsTextSuffix front) text) (FindsTextSuffix front text None)
    → r ≡ some_end (matches front) text
ends_is true front text starless h =
    let at : drop (length text - h.0) text ≡ front
    = ap (drop (length text - h.0)) h.1.1
    ∙ drop_at (take (length text - h.0) text) front (length text - h.0)
    (length-take-le (length text - h.0) text (omega arith)) in
    sym (some_end_from (matches front) text (length text - h.0) (ap (matches front) at ∙ plain_self front starless))
ends_is false front text starless h = sym (false_from_ne_true _ (λ e.
    let r = some_end_at (matches front) text e in
    h (take r.0 text) (sym (take-append-drop r.0 text)
    ∙ ap (λ l. take r.0 text ++ l) (plain_only front (drop r.0 text) starless r.2))))

-- a part up to a `*` at the front of the text
pub front_there : (pattern front rest text behind : List ℕ) → pattern ≡ front ++ (42 ∷ rest) → HasNoStar front
    → text ≡ front ++ behind → some_end (matches rest) behind ≡ matches pattern text
front_there pattern front rest text behind is starless at =
    sym (after_text_at front (some_end (matches rest)) behind)
    ∙ sym (matches_split front rest starless (front ++ behind))
    ∙ (λ i. matches (sym is i) (sym at i))

pub front_lacks : (pattern front rest text : List ℕ) → pattern ≡ front ++ (42 ∷ rest) → HasNoStar front
    → LacksTextAt front text 0 → false ≡ matches pattern text
front_lacks pattern front rest text is starless lacks =
    sym (false_from_ne_true _ (λ e.
    let p = after_text_rest front (some_end (matches rest)) text
    (sym (matches_split front rest starless text) ∙ ap (λ l. matches l text) (sym is) ∙ e) in
    lacks p.0 p.1))

-- a part up to a `*` somewhere in the text
pub part_there : (pattern front rest text behind : List ℕ) → pattern ≡ front ++ (42 ∷ rest) → HasNoStar front
    → IsAfterFirst front text (Some behind) → some_end (matches pattern) text ≡ some_end (matches rest) behind
part_there pattern front rest text behind is starless after =
    ap (λ l. some_end (matches l) text) is
    ∙ some_end_same (matches (front ++ (42 ∷ rest))) (after_text front (some_end (matches rest)))
    (matches_split front rest starless) text
    ∙ after (matches rest)

pub part_lacks : (pattern front rest text : List ℕ) → pattern ≡ front ++ (42 ∷ rest) → HasNoStar front
    → IsAfterFirst front text None → some_end (matches pattern) text ≡ false
part_lacks pattern front rest text is starless after =
    ap (λ l. some_end (matches l) text) is
    ∙ some_end_same (matches (front ++ (42 ∷ rest))) (after_text front (some_end (matches rest)))
    (matches_split front rest starless) text
    ∙ after (matches rest)
