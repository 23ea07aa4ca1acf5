-- What is noted of the keys of scopes, and how long a scope with a match can be.
use Rattle.std.proofs.Common.{zero, suc, ◌≡◌, ◌≤◌, ◌<◌, ◌+◌, ◌-◌, ◌⊎◌, inl, inr, ℕ, Bool, true, false, cond, List, [], ◌∷◌, length, take, get_or, refl, sym, ◌∙◌, ap, subst, arith, rules, Option, Some, None, MatchOption}
use Rattle.std.specs.Prelude.{bytes_eq, ◌&&◌, ◌||◌, ◌==◌, slice_index, is_some, max}
use Rattle.std.specs.List.{AllByRecursion}
use Rattle.std.specs.Ordering.{is_eq}
use Rattle.std.specs.BTreeMap.{is_at}
use Rattle.std.proofs.lemmas.Bool.{false≢true}
use Rattle.std.proofs.lemmas.Map.Text.{is_eq-slice_cmp}
use Rattle.std.proofs.lemmas.List.{take_all}
use Rattle.url.specs.Parts.{Parts}
use Rattle.lexical_path.specs.Specifiers.{begins}
use Rattle.import_map.specs.ImportMap.{Table, Addresses, longer, longest, is_match, ends_with_slash, match_in}
use Rattle.import_map.specs.Order.{entry_at, entry_at_front}
use Rattle.import_map.specs.Names.{noted, IsNoted, AreNoted, IsReached, AreWithin, length_of, is_front}
use Rattle.import_map.proofs.EntriesLemmas.{text_cmp}
use Rattle.import_map.proofs.TableLemmas.{equal, front_short, front_last, front_of}

all_map : {A : Type 0} (P Q : A → Type 0) → ((x : A) → P x → Q x) → (xs : List A) → AllByRecursion P xs
    → AllByRecursion Q xs
all_map P Q f [] h = tt
all_map P Q f (x ∷ xs) h = (f x h.0, all_map P Q f xs h.1)

-- what holds of each of a front holds with the next one
all_take : {A : Type 0} (P : A → Type 0) (xs : List A) (i : ℕ) (x : A) → AllByRecursion P (take i xs) → i < length xs
    → x ≡ get_or xs i x → P x → AllByRecursion P (take (suc i) xs)
all_take P [] i x h within is p = absurd (omega arith)
all_take P (y ∷ xs) zero x h within is p = (subst P is p, tt)
all_take P (y ∷ xs) (suc i) x h within is p = (h.0, all_take P xs i x h.1 (omega arith) is p)

all_more : {A : Type 0} (P : A → Type 0) (xs : List A) (i : ℕ) (x : A) → AllByRecursion P (take i xs) → i < length xs
    → x ≡ get_or xs i x → P x → AllByRecursion P (take (i + 1) xs)
all_more P xs i x h within is p =
    let on : suc i ≡ i + 1 = omega arith in
    subst (λ (n : ℕ). AllByRecursion P (take n xs)) on (all_take P xs i x h within is p)

-- ---- what is noted

-- what is noted at a key isn't more than this
abbrev pub IsAtMost : Table ℕ → List ℕ → ℕ → Type 0
IsAtMost names key v = MatchOption (noted names key) (Unit {0}) (λ o. o ≤ v)

through : (o : Option ℕ) (n v : ℕ) → MatchOption o ⊥ (λ x. n ≤ x) → MatchOption o (Unit {0}) (λ x. x ≤ v) → n ≤ v
through None n v h g = absurd h
through (Some x) n v h g = omega arith

-- what was noted stays where no less is put at a key
pub note_kept : (old new : Table ℕ) (key : List ℕ) (v : ℕ)
    → ((q : List ℕ) → noted new q ≡ cond (is_at (text_cmp key) q) (Some v) (noted old q))
    → IsAtMost old key v → (q : List ℕ) (n : ℕ) → IsNoted old q n → IsNoted new q n
note_kept old new key v updates most q n h = by (is_eq (text_cmp key q)) refl
  where
    by : (b : Bool) → is_eq (text_cmp key q) ≡ b → IsNoted new q n
    by false apart = rw (updates q, apart) h
    by true same =
        let is : key ≡ q = equal key q (sym (is_eq-slice_cmp key q) ∙ same) in
        rw (updates q, same)
        (through (noted old q) n v h (subst (λ k. IsAtMost old k v) is most))

-- the same where the key is a copy
pub note_put : (old new : Table ℕ) (key copy : List ℕ) (v : ℕ) → copy ≡ key
    → ((q : List ℕ) → noted new q ≡ cond (is_at (text_cmp copy) q) (Some v) (noted old q))
    → IsAtMost old key v → (q : List ℕ) (n : ℕ) → IsNoted old q n → IsNoted new q n
note_put old new key copy v same updates most =
    note_kept old new copy v updates (subst (λ k. IsAtMost old k v) (sym same) most)

-- and at the key so many is noted
pub note_here : (names : Table ℕ) (key : List ℕ) (n v : ℕ) → noted names key ≡ Some v → n ≤ v → IsNoted names key n
note_here names key n v is le = rw is le

-- one more key is noted
pub notes_more : (old new : Table ℕ) (n : ℕ) (es : Addresses) (i : ℕ) (e : List ℕ × Option Parts)
    → ((q : List ℕ) (m : ℕ) → IsNoted old q m → IsNoted new q m)
    → AllByRecursion (λ x. IsNoted old x.0 n) (take i es) → i < length es → e ≡ get_or es i e → IsNoted new e.0 n
    → AllByRecursion (λ x. IsNoted new x.0 n) (take (i + 1) es)
notes_more old new n es i e kept h within is g =
    all_more (λ x. IsNoted new x.0 n) es i e
    (all_map (λ x. IsNoted old x.0 n) (λ x. IsNoted new x.0 n) (λ x there. kept x.0 n there) (take i es) h)
    within is g

-- one more scope is
pub names_more : (old new : Table ℕ) (scopes : Table Addresses) (i : ℕ) (s : List ℕ × Addresses)
    → ((q : List ℕ) (m : ℕ) → IsNoted old q m → IsNoted new q m)
    → AreNoted old (take i scopes) → i < length scopes → s ≡ get_or scopes i s
    → AllByRecursion (λ e. IsNoted new e.0 (length s.0)) s.1
    → AreNoted new (take (i + 1) scopes)
names_more old new scopes i s kept h within is g =
    all_more (λ x. AllByRecursion (λ e. IsNoted new e.0 (length x.0)) x.1) scopes i s
    (all_map (λ x. AllByRecursion (λ e. IsNoted old e.0 (length x.0)) x.1)
    (λ x. AllByRecursion (λ e. IsNoted new e.0 (length x.0)) x.1)
    (λ x there. all_map (λ e. IsNoted old e.0 (length x.0)) (λ e. IsNoted new e.0 (length x.0))
    (λ e one. kept e.0 (length x.0) one) x.1 there)
    (take i scopes) h) within is g

-- all are where none is left
pub notes_all : (names : Table ℕ) (n : ℕ) (es : Addresses) (i : ℕ) → AllByRecursion (λ x. IsNoted names x.0 n) (take i es)
    → length es ≤ i → AllByRecursion (λ x. IsNoted names x.0 n) es
notes_all names n es i h over = subst (AllByRecursion (λ x. IsNoted names x.0 n)) (take_all i es over) h

pub names_all : (names : Table ℕ) (scopes : Table Addresses) (i : ℕ) → AreNoted names (take i scopes)
    → length scopes ≤ i → AreNoted names scopes
names_all names scopes i h over = subst (AreNoted names) (take_all i scopes over) h

-- ---- how long a scope with a match can be

-- what is noted at a key is in its entry
pub noted_entry : (names : Table ℕ) (key : List ℕ) (n : ℕ) → IsNoted names key n → n ≤ length_of (entry_at names key)
noted_entry [] key n h = absurd h
noted_entry (e ∷ es) key n h =
    by (bytes_eq key e.0) (noted_entry es key n)
    (subst (λ b. MatchOption (cond b (Some e.1) (noted es key)) ⊥ (λ v. n ≤ v)) (is_eq-slice_cmp key e.0) h)
  where
    by : (b : Bool) → (IsNoted es key n → n ≤ length_of (entry_at es key))
        → MatchOption (cond b (Some e.1) (noted es key)) ⊥ (λ v. n ≤ v)
        → n ≤ length_of (cond b (Some e) (entry_at es key))
    by true rest there = there
    by false rest there = rest there

-- at the text itself
pub whole_reached : (names : Table ℕ) (text key : List ℕ) (n : ℕ) → bytes_eq text key ≡ true → IsNoted names key n
    → n ≤ length_of (entry_at names text)
whole_reached names text key n same h =
    noted_entry names text n (subst (λ k. IsNoted names k n) (sym (equal text key same)) h)

-- of the text and its fronts
pub reached_both : (names : Table ℕ) (text : List ℕ) (most : ℕ) → IsReached (is_front text) names most
    → IsReached (is_match true text) names (max (length_of (entry_at names text)) most)
reached_both names text most fronts key n is h = by (bytes_eq text key) refl is
  where
    left : (a b c : ℕ) → a ≤ b → a ≤ max b c
    left a b c le = search (rules, arith)

    right : (a b c : ℕ) → a ≤ c → a ≤ max b c
    right a b c le = search (rules, arith)

    by : (b : Bool) → bytes_eq text key ≡ b → (b || (true && (ends_with_slash key && begins text key))) ≡ true
        → n ≤ max (length_of (entry_at names text)) most
    by true same there = left n _ most (whole_reached names text key n same h)
    by false same there = right n (length_of (entry_at names text)) most (fronts key n there h)

-- of the text alone
pub reached_whole : (names : Table ℕ) (text : List ℕ)
    → IsReached (is_match false text) names (length_of (entry_at names text))
reached_whole names text key n is h = by (bytes_eq text key) refl is
  where
    by : (b : Bool) → bytes_eq text key ≡ b → (b || (false && (ends_with_slash key && begins text key))) ≡ true
        → n ≤ length_of (entry_at names text)
    by true same there = whole_reached names text key n same h
    by false same there = absurd (false≢true there)

-- ---- the search from the whole text down

and_left : (a b : Bool) → (a && b) ≡ true → a ≡ true
and_left true b h = refl
and_left false b h = absurd (false≢true h)

and_right : (a b : Bool) → (a && b) ≡ true → b ≡ true
and_right true b h = h
and_right false b h = absurd (false≢true h)

-- fronts of more bytes were tried
pub record IsTried (text : List ℕ) (names : Table ℕ) (end most : ℕ) : Type 0 where
  pub within : end ≤ length text
  pub reached : (key : List ℕ) (n : ℕ) → is_front text key ≡ true → end < length key → IsNoted names key n → n ≤ most

pub tried_none : (text : List ℕ) (names : Table ℕ) → IsTried text names (length text) 0
tried_none text names = record {
  within = omega arith;
  reached = λ key n is longer h. absurd (over key longer
      (front_short text key (length key) (front_of text key (and_right (ends_with_slash key) (begins text key) is))));
}
  where
    over : (key : List ℕ) → length text < length key → length key ≤ length text → ⊥
    over key less le = absurd (omega arith)

pub tried_more : (text : List ℕ) (names : Table ℕ) (end most : ℕ) → IsTried text names end most → 0 < end
    → IsTried text names (end - 1) (max most (length_of (entry_at_front names text end)))
tried_more text names end most tried some = record {
  within = omega (arith, tried.within);
  reached = λ key n is longer h. by key n is h (cases (length key) end longer);
}
  where
    cases : (i j : ℕ) → j - 1 < i → (i ≡ j) ⊎ (j < i)
    cases i j less = grind arith

    left : (a b c : ℕ) → a ≤ b → a ≤ max b c
    left a b c le = search (rules, arith)

    right : (a b c : ℕ) → a ≤ c → a ≤ max b c
    right a b c le = search (rules, arith)

    here : (key : List ℕ) (n : ℕ) → take end text ≡ key → (slice_index text (end - 1) == 47) ≡ true
        → IsNoted names key n
        → n ≤ length_of (entry_at_front names text end)
    here key n is slash h = rw slash (rw is (noted_entry names key n h))

    by : (key : List ℕ) (n : ℕ) → is_front text key ≡ true → IsNoted names key n
        → (length key ≡ end) ⊎ (end < length key)
        → n ≤ max most (length_of (entry_at_front names text end))
    by key n is h (inr longer) = left n most _ (tried.reached key n is longer h)
    by key n is h (inl same) =
        let front : take end text ≡ key = ap (λ k. take k text) (sym same)
        ∙ sym (front_of text key (and_right (ends_with_slash key) (begins text key) is)) in
        right n most _ (here key n front
        (sym (front_last text end some tried.within) ∙ ap ends_with_slash front
        ∙ and_left (ends_with_slash key) (begins text key) is) h)

pub tried_all : (text : List ℕ) (names : Table ℕ) (end most : ℕ) → IsTried text names end most → end ≤ 0
    → IsReached (is_front text) names most
tried_all text names end most tried over key n is h = by key refl
  where
    by : (k : List ℕ) → key ≡ k → n ≤ most
    by [] same =
        absurd (false≢true (ap ends_with_slash (sym same) ∙ and_left (ends_with_slash key) (begins text key) is))
    by (x ∷ xs) same = tried.reached key n is (rw same (omega arith)) h

-- ---- scopes

-- what holds of each that passes holds where there is a longest
some_passes : {V : Type 0} (passes : List ℕ × V → Bool) (G : Type 0) (table : Table V)
    → AllByRecursion (λ (o : List ℕ × V). passes o ≡ true → G) table → is_some (longest passes table) ≡ true → G
some_passes passes G [] h is = absurd (false≢true is)
some_passes {V} passes G (e ∷ es) h is = by (passes e) refl (some_passes passes G es h.1) is
  where
    by : (b : Bool) → passes e ≡ b → (is_some (longest passes es) ≡ true → G)
        → is_some (longer (cond b (Some e) None) (longest passes es)) ≡ true → G
    by true p rest there = h.0 p
    by false p rest there = rest there

-- no scope with a match is longer than what is noted
pub scopes_within : (fronts : Bool) (text : List ℕ) (names : Table ℕ) (scopes : Table Addresses) (most : ℕ)
    → AreNoted names scopes → IsReached (is_match fronts text) names most → AreWithin fronts text most scopes
scopes_within fronts text names scopes most h reached =
    all_map (λ s. AllByRecursion (λ e. IsNoted names e.0 (length s.0)) s.1)
    (λ s. is_some (match_in fronts text s.1) ≡ true → length s.0 ≤ most)
    (λ s there is. some_passes (λ e. is_match fronts text e.0) (length s.0 ≤ most) s.1
    (all_map (λ e. IsNoted names e.0 (length s.0)) (λ e. is_match fronts text e.0 ≡ true → length s.0 ≤ most)
    (λ e one p. reached e.0 (length s.0) p one) s.1 there) is)
    scopes h
