-- The longest match of a table, and the search for it from the whole text down.
use Rattle.std.proofs.Common.{◌≡◌, ◌≤◌, ◌<◌, ◌++◌, ◌-◌, ◌⊎◌, inl, inr, ℕ, Bool, true, false, cond, List, [], ◌∷◌, length, take, drop, refl, sym, ◌∙◌, ap, subst, arith, rules, Option, Some, None, MatchOption, IfSome, Ok, Err}
use Rattle.std.specs.Prelude.{bytes_eq, ◌&&◌, ◌||◌, ◌==◌, slice_index, nat_lt, is_some, min}
use Rattle.std.specs.List.{AllByRecursion}
use Rattle.std.specs.List.Sorted.{IsStrictlySortedBy}
use Rattle.std.specs.Map.{keys_of}
use Rattle.std.specs.Ordering.{nat_cmp, match_ordering}
use Rattle.std.specs.Cmp.Lexicographic.{slice_cmp}
use Rattle.std.specs.declared.cmp.Ordering.{Ordering}
use Rattle.std.specs.declared.cmp.Ordering.TheVariants.{Less, Equal, Greater}
use Rattle.std.proofs.lemmas.Bool.{false≢true}
use Rattle.std.proofs.lemmas.Slice.Eq.{bytes_eq-Decides}
use Rattle.std.proofs.lemmas.List.{length-take, length-take-le, get_or-take, take_all, take-append-drop}
use Rattle.url.specs.Parts.{Parts, serialize}
use Rattle.url.specs.Parser.{Parsed}
use Rattle.lexical_path.specs.Specifiers.{begins}
use Rattle.import_map.specs.ImportMap.{Table, Addresses, longer, longest, is_match, ends_with_slash, match_in, scoped_match, match_of, or_else, MapData, with_key, with_scope}
use Rattle.import_map.specs.Order.{IsInOrder, entry_at, entry_at_front, match_of_entry, AreInOrder}
use Rattle.import_map.specs.Names.{AreWithin}
use Rattle.import_map.specs.Fronts.{AreFrontsWithin}
use Rattle.import_map.proofs.EntriesLemmas.{text_cmp, bytes_eq-unequal}

-- equal by their bytes
pub equal : (x y : List ℕ) → bytes_eq x y ≡ true → x ≡ y
equal x y h = (bytes_eq-Decides x y).0 h

-- a text equals itself
pub itself : (x : List ℕ) → bytes_eq x x ≡ true
itself x = (bytes_eq-Decides x x).1 refl

-- no entry at the key passes
abbrev pub NoneAt : {V : Type 0} → (List ℕ × V → Bool) → List ℕ → Table V → Type 0
NoneAt {V} passes key table = AllByRecursion (λ (o : List ℕ × V). bytes_eq key o.0 ≡ true → passes o ≡ false) table

-- the keys that pass have so many bytes at most
abbrev pub AtMost : {V : Type 0} → (List ℕ × V → Bool) → ℕ → Table V → Type 0
AtMost {V} passes n table = AllByRecursion (λ (o : List ℕ × V). passes o ≡ true → length o.0 ≤ n) table

-- what holds of each by another fact on each
all_map : {A : Type 0} (P Q : A → Type 0) → ((x : A) → P x → Q x) → (xs : List A) → AllByRecursion P xs
    → AllByRecursion Q xs
all_map P Q f [] h = tt
all_map P Q f (x ∷ xs) h = (f x h.0, all_map P Q f xs h.1)

all_of : {A : Type 0} (Q : A → Type 0) → ((x : A) → Q x) → (xs : List A) → AllByRecursion Q xs
all_of Q f [] = tt
all_of Q f (x ∷ xs) = (f x, all_of Q f xs)

-- by two
all_map2 : {A : Type 0} (P Q R : A → Type 0) → ((x : A) → P x → Q x → R x) → (xs : List A) → AllByRecursion P xs
    → AllByRecursion Q xs → AllByRecursion R xs
all_map2 P Q R f [] h k = tt
all_map2 P Q R f (x ∷ xs) h k = (f x h.0 k.0, all_map2 P Q R f xs h.1 k.1)

-- where there is no entry at a key, none there passes
pub none_at-None : {V : Type 0} (passes : List ℕ × V → Bool) (key : List ℕ) (table : Table V)
    → entry_at table key ≡ None → NoneAt passes key table
none_at-None passes key [] h = tt
none_at-None {V} passes key (e ∷ es) h = by (bytes_eq key e.0) refl (none_at-None passes key es) h
  where
    by : (b : Bool) → bytes_eq key e.0 ≡ b → (entry_at es key ≡ None → NoneAt passes key es)
        → cond b (Some e) (entry_at es key) ≡ None → NoneAt passes key (e ∷ es)
    by true same rest found = absurd cc
    by false same rest found = (λ is. absurd (false≢true (sym same ∙ is)), rest found)

-- the keys behind the first are other ones
others : {V : Type 0} (passes : List ℕ × V → Bool) (key : List ℕ) (es : Table V)
    → AllByRecursion (λ y. text_cmp key y ≡ Less) (keys_of es) → NoneAt passes key es
others passes key [] h = tt
others passes key (e ∷ es) h =
    (λ is. absurd (false≢true (sym (bytes_eq-unequal key e.0 Less h.0 refl) ∙ is)), others passes key es h.1)

-- where the one entry at a key doesn't pass, none there does
pub none_at-Some : {V : Type 0} (passes : List ℕ × V → Bool) (key : List ℕ) (table : Table V) (e : List ℕ × V)
    → IsInOrder table → entry_at table key ≡ Some e → passes e ≡ false → NoneAt passes key table
unfolding IsStrictlySortedBy
none_at-Some passes key [] e sorted h fails = tt
none_at-Some {V} passes key (f ∷ es) e sorted h fails =
    by (bytes_eq key f.0) refl (λ found. none_at-Some passes key es e sorted.1 found fails) h
  where
    by : (b : Bool) → bytes_eq key f.0 ≡ b → (entry_at es key ≡ Some e → NoneAt passes key es)
        → cond b (Some f) (entry_at es key) ≡ Some e → NoneAt passes key (f ∷ es)
    by true same rest found =
        let is : f ≡ e = cc in (
          λ _. ap passes is ∙ fails,
          others passes key es (subst (λ k. AllByRecursion (λ y. text_cmp k y ≡ Less) (keys_of es))
              (sym (equal key f.0 same)) sorted.0),
        )
    by false same rest found = (λ is. absurd (false≢true (sym same ∙ is)), rest found)

-- where nothing passes there is no longest
pub longest_none : {V : Type 0} (passes : List ℕ × V → Bool) (table : Table V)
    → AllByRecursion (λ (o : List ℕ × V). passes o ≡ false) table → longest passes table ≡ None
longest_none passes [] h = refl
longest_none passes (e ∷ es) h = rw (h.0, longest_none passes es h.1) refl

-- the longest has no more bytes than those that pass
longest_bound : {V : Type 0} (passes : List ℕ × V → Bool) (n : ℕ) (table : Table V) → AtMost passes n table
    → MatchOption (longest passes table) (Unit {0}) (λ o. length o.0 ≤ n)
longest_bound passes n [] h = tt
longest_bound {V} passes n (e ∷ es) h = by (passes e) refl (longest passes es) (longest_bound passes n es h.1)
  where
    by : (b : Bool) → passes e ≡ b → (r : Option (List ℕ × V)) → MatchOption r (Unit {0}) (λ o. length o.0 ≤ n)
        → MatchOption (longer (cond b (Some e) None) r) (Unit {0}) (λ o. length o.0 ≤ n)
    by false is r k = k
    by true is None k = h.0 is
    by true is (Some f) k = pick (nat_lt (length e.0) (length f.0))
      where
        pick : (c : Bool) → MatchOption (cond c (Some f) (Some e)) (Unit {0}) (λ o. length o.0 ≤ n)
        pick true = k
        pick false = h.0 is

-- what passes is at the key, or is shorter
abbrev pub IsBest : {V : Type 0} → (List ℕ × V → Bool) → List ℕ → Table V → Type 0
IsBest {V} passes key table =
    AllByRecursion (λ (o : List ℕ × V). passes o ≡ true → (bytes_eq key o.0 ≡ true) ⊎ (length o.0 < length key)) table

-- the entry at a key has that key
pub entry_key : {V : Type 0} (table : Table V) (key : List ℕ) (e : List ℕ × V) → entry_at table key ≡ Some e → key ≡ e.0
entry_key [] key e found = absurd cc
entry_key {V} (f ∷ es) key e found = by (bytes_eq key f.0) refl (entry_key es key e) found
  where
    by : (b : Bool) → bytes_eq key f.0 ≡ b → (entry_at es key ≡ Some e → key ≡ e.0)
        → cond b (Some f) (entry_at es key) ≡ Some e → key ≡ e.0
    by true same rest there =
        let one : f ≡ e = cc in
        subst (λ (x : List ℕ × V). key ≡ x.0) one (equal key f.0 same)
    by false same rest there = rest there

not_less : (a b : ℕ) → b ≤ a → nat_lt a b ≡ false
not_less a b le = search (rules, arith)

is_less : (a b : ℕ) → a < b → nat_lt a b ≡ true
is_less a b less = search (rules, arith)

-- among those that are no longer, the first stays
first_longest : {V : Type 0} (e : List ℕ × V) (r : Option (List ℕ × V))
    → MatchOption r (Unit {0}) (λ o. length o.0 ≤ length e.0)
    → longer (Some e) r ≡ Some e
first_longest e None k = refl
first_longest e (Some o) k = rw (not_less (length e.0) (length o.0) k) refl

-- a shorter one goes
later_longest : {V : Type 0} (b : Bool) (f e : List ℕ × V) → (b ≡ true → length f.0 < length e.0)
    → longer (cond b (Some f) None) (Some e) ≡ Some e
later_longest false f e k = refl
later_longest true f e k = rw (is_less (length f.0) (length e.0) (k refl)) refl

-- what is at a key, or shorter, isn't longer
no_longer : (key x : List ℕ) → (bytes_eq key x ≡ true) ⊎ (length x < length key) → length x ≤ length key
no_longer key x (inl same) = rw (equal key x same) (omega arith)
no_longer key x (inr less) = omega arith

-- and at another key it is shorter
shorter : (key x : List ℕ) → bytes_eq key x ≡ false → (bytes_eq key x ≡ true) ⊎ (length x < length key)
    → length x < length key
shorter key x differs (inl same) = absurd (false≢true (sym differs ∙ same))
shorter key x differs (inr less) = less

-- then the entry at the key is the longest
pub longest_found : {V : Type 0} (passes : List ℕ × V → Bool) (key : List ℕ) (table : Table V) (e : List ℕ × V)
    → entry_at table key ≡ Some e → passes e ≡ true → IsBest passes key table → longest passes table ≡ Some e
longest_found passes key [] e found is best = absurd cc
longest_found {V} passes key (f ∷ es) e found is best =
    by (bytes_eq key f.0) refl (λ there. longest_found passes key es e there is best.1) found
  where
    bounded : AtMost passes (length key) es
    bounded = all_map _ (λ (o : List ℕ × V). passes o ≡ true → length o.0 ≤ length key)
        (λ o h p. no_longer key o.0 (h p)) es best.1

    by : (b : Bool) → bytes_eq key f.0 ≡ b → (entry_at es key ≡ Some e → longest passes es ≡ Some e)
        → cond b (Some f) (entry_at es key) ≡ Some e → longest passes (f ∷ es) ≡ Some e
    by true same rest there =
        let one : f ≡ e = cc in
        let long : key ≡ e.0 = entry_key (f ∷ es) key e found in
        rw (ap passes one ∙ is)
        (subst (λ (x : List ℕ × V). longer (Some x) (longest passes es) ≡ Some e) (sym one)
        (first_longest e (longest passes es)
        (subst (λ (k : List ℕ). MatchOption (longest passes es) (Unit {0}) (λ o. length o.0 ≤ length k)) long
        (longest_bound passes (length key) es bounded))))
    by false same rest there =
        let long : key ≡ e.0 = entry_key (f ∷ es) key e found in
        rw (rest there) (later_longest (passes f) f e
        (λ p. subst (λ (k : List ℕ). length f.0 < length k) long (shorter key f.0 same (best.0 p))))

-- ---- keys that match are fronts

-- a key that a text begins with is its front
pub front_of : (text key : List ℕ) → begins text key ≡ true → key ≡ take (length key) text
front_of text key h = equal key (take (length key) text) h

whole_front : (text key : List ℕ) → text ≡ key → key ≡ take (length key) text
whole_front text key same =
    subst (λ (k : List ℕ). k ≡ take (length k) text) same (sym (take_all (length text) text (omega arith)))

-- whether a key is the text itself or ends with `/`
abbrev pub EndsSo : List ℕ → List ℕ → Type 0
EndsSo text key = (bytes_eq text key ≡ true) ⊎ (ends_with_slash key ≡ true)

-- a key that matches is a front of the text, and is all of it or ends with `/`
pub match_front : (fronts : Bool) (text key : List ℕ) → is_match fronts text key ≡ true
    → (key ≡ take (length key) text) × EndsSo text key
match_front fronts text key h = by (bytes_eq text key) refl fronts (ends_with_slash key) refl (begins text key) refl h
  where
    by : (a : Bool) → bytes_eq text key ≡ a → (f b : Bool) → ends_with_slash key ≡ b → (c : Bool) → begins text key ≡ c
        → (a || (f && (b && c))) ≡ true → (key ≡ take (length key) text) × EndsSo text key
    by true same f b ends c front is = (whole_front text key (equal text key same), inl same)
    by false same true true ends true front is = (front_of text key front, inr ends)
    by false same true true ends false front is = absurd (false≢true is)
    by false same true false ends c front is = absurd (false≢true is)
    by false same false b ends c front is = absurd (false≢true is)

-- a front has no more bytes than the text
pub front_short : (text key : List ℕ) (n : ℕ) → key ≡ take n text → length key ≤ length text
front_short text key n is = rw is (rw (length-take n text) (omega arith))

-- the front of so many bytes
pub front_length : (text : List ℕ) (n : ℕ) → n ≤ length text → length (take n text) ≡ n
front_length text n within = length-take-le n text within

-- its last byte
pub front_last : (text : List ℕ) (n : ℕ) → 0 < n → n ≤ length text
    → ends_with_slash (take n text) ≡ (slice_index text (n - 1) == 47)
front_last text n some within =
    rw (length-take-le n text within) (ap (λ b. b == 47) (get_or-take n text (n - 1) 0 (omega arith)))

-- a front that ends with `/` matches
pub front_matches : (text key : List ℕ) (n : ℕ) → 0 < n → n ≤ length text → (slice_index text (n - 1) == 47) ≡ true
    → take n text ≡ key → is_match true text key ≡ true
front_matches text key n some within slash is =
    let ends : ends_with_slash key ≡ true = ap ends_with_slash (sym is) ∙ front_last text n some within ∙ slash in
    let same : key ≡ take (length key) text =
    sym is ∙ ap (λ k. take k text) (sym (ap length (sym is) ∙ front_length text n within)) in
    by (bytes_eq text key) (ends_with_slash key) ends (begins text key)
    ((bytes_eq-Decides key (take (length key) text)).1 same)
  where
    by : (a b : Bool) → b ≡ true → (c : Bool) → c ≡ true → (a || (true && (b && c))) ≡ true
    by true b h c k = refl
    by false true h true k = refl
    by false true h false k = k
    by false false h c k = h

-- the text itself matches
pub whole_matches : (fronts : Bool) (text key : List ℕ) → text ≡ key → is_match fronts text key ≡ true
whole_matches fronts text key is = rw (← is) (rw (itself text) refl)

-- where those that pass match, and have so many bytes at most, the front of so many is the best
pub best_front : {V : Type 0} (passes : List ℕ × V → Bool) (fronts : Bool) (text : List ℕ) (n : ℕ) (table : Table V)
    → ((o : List ℕ × V) → passes o ≡ true → is_match fronts text o.0 ≡ true) → n ≤ length text
    → AtMost passes n table → IsBest passes (take n text) table
best_front {V} passes fronts text n table sub within most =
    all_map (λ (o : List ℕ × V). passes o ≡ true → length o.0 ≤ n)
    (λ (o : List ℕ × V). passes o ≡ true → (bytes_eq (take n text) o.0 ≡ true) ⊎ (length o.0 < length (take n text)))
    (λ o short p. either o (match_front fronts text o.0 (sub o p)).0 (cases (length o.0) n (short p))) table most
  where
    cases : (i j : ℕ) → i ≤ j → (i ≡ j) ⊎ (i < j)
    cases i j le = grind arith

    either : (o : List ℕ × V) → o.0 ≡ take (length o.0) text → (length o.0 ≡ n) ⊎ (length o.0 < n)
        → (bytes_eq (take n text) o.0 ≡ true) ⊎ (length o.0 < length (take n text))
    either o is (inl same) =
        let front : take n text ≡ o.0 = ap (λ k. take k text) (sym same) ∙ sym is in
        inl (rw front (itself o.0))
    either o is (inr less) = inr (rw (length-take-le n text within) less)

-- ---- the search from the whole text down

-- the text itself was tried, and all longer fronts
pub record IsDown {V : Type 0} (passes : List ℕ × V → Bool) (text : List ℕ) (table : Table V) (end : ℕ) : Type 0 where
  pub within : end ≤ length text
  pub exact : NoneAt passes text table
  pub most : AtMost passes end table

-- no key that passes is longer than the text
pub most_all : {V : Type 0} (passes : List ℕ × V → Bool) (fronts : Bool) (text : List ℕ) (table : Table V)
    → ((o : List ℕ × V) → passes o ≡ true → is_match fronts text o.0 ≡ true) → AtMost passes (length text) table
most_all {V} passes fronts text table sub =
    all_of (λ (o : List ℕ × V). passes o ≡ true → length o.0 ≤ length text)
    (λ o p. front_short text o.0 (length o.0) (match_front fronts text o.0 (sub o p)).0) table

-- at the start
pub down_start : {V : Type 0} (passes : List ℕ × V → Bool) (fronts : Bool) (text : List ℕ) (table : Table V)
    → ((o : List ℕ × V) → passes o ≡ true → is_match fronts text o.0 ≡ true)
    → NoneAt passes text table → IsDown passes text table (length text)
down_start {V} passes fronts text table sub none = record {
  within = omega arith;
  exact = none;
  most = most_all passes fronts text table sub;
}

-- one byte less: where the byte is no `/`, or no entry at the front passes
pub down_more : {V : Type 0} (passes : List ℕ × V → Bool) (fronts : Bool) (text : List ℕ) (table : Table V) (end : ℕ)
    → ((o : List ℕ × V) → passes o ≡ true → is_match fronts text o.0 ≡ true)
    → IsDown passes text table end → 0 < end
    → ((slice_index text (end - 1) == 47) ≡ false) ⊎ NoneAt passes (take end text) table
    → IsDown passes text table (end - 1)
down_more {V} passes fronts text table end sub down some why = record {
  within = omega (arith, down.within);
  exact = down.exact;
  most = by why;
}
  where
    cases : (i j : ℕ) → i ≤ j → (i ≡ j) ⊎ (i ≤ j - 1)
    cases i j le = grind arith

    front : (o : List ℕ × V) → passes o ≡ true → length o.0 ≡ end → take end text ≡ o.0
    front o p same = ap (λ k. take k text) (sym same) ∙ sym (match_front fronts text o.0 (sub o p)).0

    ends : (o : List ℕ × V) → passes o ≡ true → length o.0 ≡ end → (slice_index text (end - 1) == 47) ≡ false
        → (bytes_eq text o.0 ≡ true → passes o ≡ false) → EndsSo text o.0 → ⊥
    ends o p same plain exact (inl whole) = false≢true (sym (exact whole) ∙ p)
    ends o p same plain exact (inr slash) =
        false≢true (sym plain ∙ sym (front_last text end some down.within) ∙ ap ends_with_slash (front o p same)
        ∙ slash)

    less : (o : List ℕ × V) → passes o ≡ true → (length o.0 ≡ end → ⊥) → (length o.0 ≡ end) ⊎ (length o.0 ≤ end - 1)
        → length o.0 ≤ end - 1
    less o p never (inl same) = absurd (never same)
    less o p never (inr le) = le

    by : ((slice_index text (end - 1) == 47) ≡ false) ⊎ NoneAt passes (take end text) table
        → AtMost passes (end - 1) table
    by (inl plain) =
        all_map2 (λ (o : List ℕ × V). bytes_eq text o.0 ≡ true → passes o ≡ false)
        (λ (o : List ℕ × V). passes o ≡ true → length o.0 ≤ end)
        (λ (o : List ℕ × V). passes o ≡ true → length o.0 ≤ end - 1)
        (λ o exact short p. less o p
        (λ is_same. ends o p is_same plain exact (match_front fronts text o.0 (sub o p)).1)
        (cases (length o.0) end (short p)))
        table down.exact down.most
    by (inr none) =
        all_map2 (λ (o : List ℕ × V). bytes_eq (take end text) o.0 ≡ true → passes o ≡ false)
        (λ (o : List ℕ × V). passes o ≡ true → length o.0 ≤ end)
        (λ (o : List ℕ × V). passes o ≡ true → length o.0 ≤ end - 1)
        (λ o fails short p. less o p (λ same. false≢true (sym (fails (rw (front o p same) (itself o.0))) ∙ p))
        (cases (length o.0) end (short p)))
        table none down.most

-- fewer bytes: no front that is a key has more
pub down_within : {V : Type 0} (passes : List ℕ × V → Bool) (fronts : Bool) (text : List ℕ) (table : Table V)
    (end most : ℕ)
    → ((o : List ℕ × V) → passes o ≡ true → is_match fronts text o.0 ≡ true)
    → IsDown passes text table end → AreFrontsWithin text end most table → most ≤ end → IsDown passes text table most
down_within {V} passes fronts text table end most sub down within le = record {
  within = omega (arith, down.within);
  exact = down.exact;
  most = all_map2 (λ (o : List ℕ × V). passes o ≡ true → length o.0 ≤ end)
      (λ (o : List ℕ × V). o.0 ≡ take (length o.0) text → length o.0 ≤ end → length o.0 ≤ most)
      (λ (o : List ℕ × V). passes o ≡ true → length o.0 ≤ most)
      (λ o short few p. few (match_front fronts text o.0 (sub o p)).0 (short p)) table down.most within;
}

-- at the end nothing passes
pub down_end : {V : Type 0} (passes : List ℕ × V → Bool) (fronts : Bool) (text : List ℕ) (table : Table V) (end : ℕ)
    → ((o : List ℕ × V) → passes o ≡ true → is_match fronts text o.0 ≡ true)
    → IsDown passes text table end → end ≤ 0 → longest passes table ≡ None
down_end {V} passes fronts text table end sub down over =
    longest_none passes table
    (all_map2 (λ (o : List ℕ × V). bytes_eq text o.0 ≡ true → passes o ≡ false)
    (λ (o : List ℕ × V). passes o ≡ true → length o.0 ≤ end) (λ (o : List ℕ × V). passes o ≡ false)
    (λ o exact short. none o exact short (passes o) refl) table down.exact down.most)
  where
    ends : (o : List ℕ × V) → passes o ≡ true → (k : List ℕ) → o.0 ≡ k → length k ≤ 0
        → (bytes_eq text o.0 ≡ true → passes o ≡ false) → EndsSo text o.0 → ⊥
    ends o p k is short exact (inl whole) = false≢true (sym (exact whole) ∙ p)
    ends o p [] is short exact (inr slash) = false≢true (ap ends_with_slash (sym is) ∙ slash)
    ends o p (x ∷ xs) is short exact (inr slash) = absurd (omega arith)

    least : (o : List ℕ × V) → length o.0 ≤ end → length o.0 ≤ 0
    least o le = omega arith

    none : (o : List ℕ × V) → (bytes_eq text o.0 ≡ true → passes o ≡ false) → (passes o ≡ true → length o.0 ≤ end)
        → (b : Bool) → passes o ≡ b → passes o ≡ false
    none o exact short true p =
        absurd (ends o p o.0 refl (least o (short p)) exact (match_front fronts text o.0 (sub o p)).1)
    none o exact short false p = p

-- the entry at the front that is left, where it passes
pub down_found : {V : Type 0} (passes : List ℕ × V → Bool) (fronts : Bool) (text : List ℕ) (table : Table V) (end : ℕ)
    (e : List ℕ × V)
    → ((o : List ℕ × V) → passes o ≡ true → is_match fronts text o.0 ≡ true)
    → IsDown passes text table end → entry_at table (take end text) ≡ Some e → passes e ≡ true
    → longest passes table ≡ Some e
down_found passes fronts text table end e sub down found is =
    longest_found passes (take end text) table e found is
    (best_front passes fronts text end table sub down.within down.most)

-- the entry at the text itself, where it passes
pub whole_found : {V : Type 0} (passes : List ℕ × V → Bool) (fronts : Bool) (text : List ℕ) (table : Table V)
    (e : List ℕ × V)
    → ((o : List ℕ × V) → passes o ≡ true → is_match fronts text o.0 ≡ true)
    → entry_at table text ≡ Some e → passes e ≡ true → longest passes table ≡ Some e
whole_found {V} passes fronts text table e sub found is =
    let all : take (length text) text ≡ text = take_all (length text) text (omega arith) in
    longest_found passes text table e found is
    (subst (λ (k : List ℕ). IsBest passes k table) all
    (best_front passes fronts text (length text) table sub (omega arith) (most_all passes fronts text table sub)))

-- ---- a table of addresses

abbrev pub passes_in : {V : Type 0} → Bool → List ℕ → List ℕ × V → Bool
passes_in fronts text e = is_match fronts text e.0

-- where fronts don't count, and nothing stands at the text
pub exact_none : (text : List ℕ) (table : Addresses) → entry_at table text ≡ None → match_in false text table ≡ None
exact_none text table none =
    longest_none (passes_in false text) table
    (all_map (λ (o : List ℕ × Option Parts). bytes_eq text o.0 ≡ true → passes_in false text o ≡ false)
    (λ (o : List ℕ × Option Parts). passes_in false text o ≡ false)
    (λ o h. by o (bytes_eq text o.0) refl h) table (none_at-None (passes_in false text) text table none))
  where
    by : (o : List ℕ × Option Parts) (b : Bool) → bytes_eq text o.0 ≡ b
        → (bytes_eq text o.0 ≡ true → passes_in false text o ≡ false)
        → (b || (false && (ends_with_slash o.0 && begins text o.0))) ≡ false
    by o true same h = absurd (false≢true (sym (h same) ∙ rw same refl))
    by o false same h = refl

-- a text that begins with a key is the key and what follows
pub begins_splits : (text key : List ℕ) → begins text key ≡ true → text ≡ key ++ drop (length key) text
begins_splits text key h =
    sym (ap (λ k. k ++ drop (length key) text) (front_of text key h) ∙ take-append-drop (length key) text)

-- the entry at the text
pub match_whole : (fronts : Bool) (text : List ℕ) (table : Addresses) (e : List ℕ × Option Parts)
    → entry_at table text ≡ Some e → match_in fronts text table ≡ Some e
match_whole fronts text table e found =
    whole_found (passes_in fronts text) fronts text table e (λ o p. p) found
    (whole_matches fronts text e.0 (entry_key table text e found))

-- the search begins
pub match_start : (text : List ℕ) (table : Addresses) → entry_at table text ≡ None
    → IsDown (passes_in true text) text table (length text)
match_start text table none =
    down_start (passes_in true text) true text table (λ o p. p) (none_at-None (passes_in true text) text table none)

-- the entry at a front
pub match_found : (text : List ℕ) (table : Addresses) (end : ℕ) (e : List ℕ × Option Parts)
    → IsDown (passes_in true text) text table end → 0 < end → entry_at_front table text end ≡ Some e
    → match_in true text table ≡ Some e
match_found text table end e down some found = by (slice_index text (end - 1) == 47) refl found
  where
    by : (b : Bool) → (slice_index text (end - 1) == 47) ≡ b → cond b (entry_at table (take end text)) None ≡ Some e
        → match_in true text table ≡ Some e
    by true slash there =
        down_found (passes_in true text) true text table end e (λ o p. p) down there
        (front_matches text e.0 end some down.within slash (entry_key table (take end text) e there))
    by false slash there = absurd cc

-- no entry at a front
pub match_missed : (text : List ℕ) (table : Addresses) (end : ℕ)
    → IsDown (passes_in true text) text table end → 0 < end → entry_at_front table text end ≡ None
    → IsDown (passes_in true text) text table (end - 1)
match_missed text table end down some none = by (slice_index text (end - 1) == 47) refl none
  where
    by : (b : Bool) → (slice_index text (end - 1) == 47) ≡ b → cond b (entry_at table (take end text)) None ≡ None
        → IsDown (passes_in true text) text table (end - 1)
    by true slash there =
        down_more (passes_in true text) true text table end (λ o p. p) down some
        (inr (none_at-None (passes_in true text) (take end text) table there))
    by false slash there = down_more (passes_in true text) true text table end (λ o p. p) down some (inl slash)

-- nothing is left
pub match_end : (text : List ℕ) (table : Addresses) (end : ℕ) → IsDown (passes_in true text) text table end → end ≤ 0
    → match_in true text table ≡ None
match_end text table end down over = down_end (passes_in true text) true text table end (λ o p. p) down over

-- ---- scopes

-- the scope is the referrer's, and has a match
abbrev pub passes_scope : Bool → List ℕ → List ℕ → List ℕ × Addresses → Bool
passes_scope fronts text referrer e = is_match true referrer e.0 && is_some (match_in fronts text e.1)

and_left : (a b : Bool) → (a && b) ≡ true → a ≡ true
and_left true b h = refl
and_left false b h = absurd (false≢true h)

and_right : (a b : Bool) → (a && b) ≡ true → b ≡ true
and_right true b h = h
and_right false b h = absurd (false≢true h)

scope_sub : (fronts : Bool) (text referrer : List ℕ) (o : List ℕ × Addresses)
    → passes_scope fronts text referrer o ≡ true
    → is_match true referrer o.0 ≡ true
scope_sub fronts text referrer o p = and_left (is_match true referrer o.0) (is_some (match_in fronts text o.1)) p

and_none : (a : Bool) → (a && false) ≡ false
and_none true = refl
and_none false = refl

-- where the scope at a key has no match, none there passes
scope_none : (fronts : Bool) (text referrer key : List ℕ) (scopes : Table Addresses) (at : Option (List ℕ × Addresses))
    → entry_at scopes key ≡ at → IsInOrder scopes → match_of_entry fronts text at ≡ None
    → NoneAt (passes_scope fronts text referrer) key scopes
scope_none fronts text referrer key scopes None is sorted none =
    none_at-None (passes_scope fronts text referrer) key scopes is
scope_none fronts text referrer key scopes (Some e) is sorted none =
    none_at-Some (passes_scope fronts text referrer) key scopes e sorted is
    (rw none (and_none (is_match true referrer e.0)))

-- where it has one, it decides
scope_here : (fronts : Bool) (text referrer key : List ℕ) (scopes : Table Addresses) (at : Option (List ℕ × Addresses))
    (x : List ℕ × Option Parts)
    → entry_at scopes key ≡ at → match_of_entry fronts text at ≡ Some x
    → ((e : List ℕ × Addresses) → at ≡ Some e → is_match true referrer e.0 ≡ true)
    → IsBest (passes_scope fronts text referrer) key scopes
    → scoped_match fronts text referrer scopes ≡ Some x
scope_here fronts text referrer key scopes None x is found matches best = absurd cc
scope_here fronts text referrer key scopes (Some e) x is found matches best =
    let passes : passes_scope fronts text referrer e ≡ true = rw (matches e refl, found) refl in
    ap (match_of_entry fronts text) (longest_found (passes_scope fronts text referrer) key scopes e is passes best)
    ∙ found

pub scoped_whole : (fronts : Bool) (text referrer : List ℕ) (scopes : Table Addresses) (x : List ℕ × Option Parts)
    → match_of_entry fronts text (entry_at scopes referrer) ≡ Some x → scoped_match fronts text referrer scopes ≡ Some x
scoped_whole fronts text referrer scopes x found =
    let all : take (length referrer) referrer ≡ referrer = take_all (length referrer) referrer (omega arith) in
    scope_here fronts text referrer referrer scopes (entry_at scopes referrer) x refl found
    (λ e is. whole_matches true referrer e.0 (entry_key scopes referrer e is))
    (subst (λ (k : List ℕ). IsBest (passes_scope fronts text referrer) k scopes) all
    (best_front (passes_scope fronts text referrer) true referrer (length referrer) scopes
    (scope_sub fronts text referrer) (omega arith)
    (most_all (passes_scope fronts text referrer) true referrer scopes (scope_sub fronts text referrer))))

-- the search begins where no longer scope has a match
pub scoped_start : (fronts : Bool) (text referrer : List ℕ) (scopes : Table Addresses) (most : ℕ) → IsInOrder scopes
    → AreWithin fronts text most scopes → match_of_entry fronts text (entry_at scopes referrer) ≡ None
    → IsDown (passes_scope fronts text referrer) referrer scopes (min (length referrer) most)
scoped_start fronts text referrer scopes most sorted within none = record {
  within = search (rules, arith);
  exact = scope_none fronts text referrer referrer scopes (entry_at scopes referrer) refl sorted none;
  most = all_map2 (λ (o : List ℕ × Addresses). is_some (match_in fronts text o.1) ≡ true → length o.0 ≤ most)
      (λ (o : List ℕ × Addresses). passes_scope fronts text referrer o ≡ true → length o.0 ≤ length referrer)
      (λ (o : List ℕ × Addresses). passes_scope fronts text referrer o ≡ true
      → length o.0 ≤ min (length referrer) most)
      (λ o few short p. least (length o.0) (length referrer) most (short p)
      (few (and_right (is_match true referrer o.0) (is_some (match_in fronts text o.1)) p)))
      scopes within
      (most_all (passes_scope fronts text referrer) true referrer scopes (scope_sub fronts text referrer));
}
  where
    least : (a b c : ℕ) → a ≤ b → a ≤ c → a ≤ min b c
    least a b c h g = search (rules, arith)

pub scoped_found : (fronts : Bool) (text referrer : List ℕ) (scopes : Table Addresses) (end : ℕ)
    (x : List ℕ × Option Parts)
    → IsDown (passes_scope fronts text referrer) referrer scopes end → 0 < end
    → match_of_entry fronts text (entry_at_front scopes referrer end) ≡ Some x
    → scoped_match fronts text referrer scopes ≡ Some x
scoped_found fronts text referrer scopes end x down some found = by (slice_index referrer (end - 1) == 47) refl found
  where
    by : (b : Bool) → (slice_index referrer (end - 1) == 47) ≡ b
        → match_of_entry fronts text (cond b (entry_at scopes (take end referrer)) None) ≡ Some x
        → scoped_match fronts text referrer scopes ≡ Some x
    by true slash there =
        scope_here fronts text referrer (take end referrer) scopes (entry_at scopes (take end referrer)) x refl there
        (λ e is. front_matches referrer e.0 end some down.within slash (entry_key scopes (take end referrer) e is))
        (best_front (passes_scope fronts text referrer) true referrer end scopes (scope_sub fronts text referrer)
        down.within down.most)
    by false slash there = absurd cc

pub scoped_missed : (fronts : Bool) (text referrer : List ℕ) (scopes : Table Addresses) (end : ℕ) → IsInOrder scopes
    → IsDown (passes_scope fronts text referrer) referrer scopes end → 0 < end
    → match_of_entry fronts text (entry_at_front scopes referrer end) ≡ None
    → IsDown (passes_scope fronts text referrer) referrer scopes (end - 1)
scoped_missed fronts text referrer scopes end sorted down some none =
    by (slice_index referrer (end - 1) == 47) refl none
  where
    by : (b : Bool) → (slice_index referrer (end - 1) == 47) ≡ b
        → match_of_entry fronts text (cond b (entry_at scopes (take end referrer)) None) ≡ None
        → IsDown (passes_scope fronts text referrer) referrer scopes (end - 1)
    by true slash there =
        down_more (passes_scope fronts text referrer) true referrer scopes end (scope_sub fronts text referrer) down
        some
        (inr (scope_none fronts text referrer (take end referrer) scopes (entry_at scopes (take end referrer)) refl
        sorted
        there))
    by false slash there =
        down_more (passes_scope fronts text referrer) true referrer scopes end (scope_sub fronts text referrer) down
        some
        (inl slash)

pub scoped_end : (fronts : Bool) (text referrer : List ℕ) (scopes : Table Addresses) (end : ℕ)
    → IsDown (passes_scope fronts text referrer) referrer scopes end → end ≤ 0
    → scoped_match fronts text referrer scopes ≡ None
scoped_end fronts text referrer scopes end down over =
    ap (match_of_entry fronts text)
    (down_end (passes_scope fronts text referrer) true referrer scopes end (scope_sub fronts text referrer) down over)

-- what holds of each entry holds of that at a key
each_at : {V : Type 0} (P : List ℕ × V → Type 0) (table : Table V) (key : List ℕ) (e : List ℕ × V)
    → AllByRecursion P table
    → entry_at table key ≡ Some e → P e
each_at P [] key e h found = absurd cc
each_at {V} P (f ∷ es) key e h found = by (bytes_eq key f.0) (each_at P es key e h.1) found
  where
    by : (b : Bool) → (entry_at es key ≡ Some e → P e) → cond b (Some f) (entry_at es key) ≡ Some e → P e
    by true rest there = let one : f ≡ e = cc in subst (λ (x : List ℕ × V). P x) one h.0
    by false rest there = rest there

-- a scope's addresses are in order
pub scope_in_order : (scopes : Table Addresses) (key : List ℕ) → AllByRecursion (λ e. IsInOrder e.1) scopes
    → IfSome (entry_at scopes key) (λ e. IsInOrder e.1)
scope_in_order scopes key h = by (entry_at scopes key) refl
  where
    by : (o : Option (List ℕ × Addresses)) → entry_at scopes key ≡ o → IfSome o (λ e. IsInOrder e.1)
    by None is = tt
    by (Some e) is = each_at (λ e. IsInOrder e.1) scopes key e h is

pub front_in_order : (scopes : Table Addresses) (text : List ℕ) (end : ℕ) → AllByRecursion (λ e. IsInOrder e.1) scopes
    → IfSome (entry_at_front scopes text end) (λ e. IsInOrder e.1)
front_in_order scopes text end h = by (slice_index text (end - 1) == 47)
  where
    by : (b : Bool) → IfSome (cond b (entry_at scopes (take end text)) None) (λ e. IsInOrder e.1)
    by true = scope_in_order scopes (take end text) h
    by false = tt

-- the same of a table and of scopes
pub match_within : (text : List ℕ) (table : Addresses) (end most : ℕ) → IsDown (passes_in true text) text table end
    → AreFrontsWithin text end most table → most ≤ end → IsDown (passes_in true text) text table most
match_within text table end most = down_within (passes_in true text) true text table end most (λ o p. p)

pub scoped_within : (fronts : Bool) (text referrer : List ℕ) (scopes : Table Addresses) (end most : ℕ)
    → IsDown (passes_scope fronts text referrer) referrer scopes end → AreFrontsWithin referrer end most scopes
    → most ≤ end → IsDown (passes_scope fronts text referrer) referrer scopes most
scoped_within fronts text referrer scopes end most =
    down_within (passes_scope fronts text referrer) true referrer scopes end most (scope_sub fronts text referrer)

-- ---- what a match is

-- the longest passes
pub longest_passes : {V : Type 0} (passes : List ℕ × V → Bool) (table : Table V) (e : List ℕ × V)
    → longest passes table ≡ Some e → passes e ≡ true
longest_passes passes [] e found = absurd cc
longest_passes {V} passes (f ∷ es) e found = by (passes f) refl (longest passes es) (longest_passes passes es e) found
  where
    by : (b : Bool) → passes f ≡ b → (r : Option (List ℕ × V)) → (r ≡ Some e → passes e ≡ true)
        → longer (cond b (Some f) None) r ≡ Some e → passes e ≡ true
    by false is r rest there = rest there
    by true is None rest there = let one : f ≡ e = cc in ap passes (sym one) ∙ is
    by true is (Some o) rest there = pick (nat_lt (length f.0) (length o.0)) there
      where
        pick : (c : Bool) → cond c (Some o) (Some f) ≡ Some e → passes e ≡ true
        pick true h = rest h
        pick false h = let one : f ≡ e = cc in ap passes (sym one) ∙ is

-- a text begins with the key of a match
front_begins : (fronts : Bool) (text key : List ℕ) → is_match fronts text key ≡ true → begins text key ≡ true
front_begins fronts text key h = (bytes_eq-Decides key (take (length key) text)).1 (match_front fronts text key h).0

in_begins : (fronts : Bool) (text : List ℕ) (table : Addresses) (e : List ℕ × Option Parts)
    → match_in fronts text table ≡ Some e → begins text e.0 ≡ true
in_begins fronts text table e found =
    front_begins fronts text e.0 (longest_passes (passes_in fronts text) table e found)

scoped_begins : (fronts : Bool) (text : List ℕ) (o : Option (List ℕ × Addresses)) (e : List ℕ × Option Parts)
    → match_of_entry fronts text o ≡ Some e → begins text e.0 ≡ true
scoped_begins fronts text None e found = absurd cc
scoped_begins fronts text (Some scope) e found = in_begins fronts text scope.1 e found

pub match_begins : (m : MapData) (fronts : Bool) (text referrer : List ℕ) (e : List ℕ × Option Parts)
    → match_of m fronts text referrer ≡ Some e → begins text e.0 ≡ true
match_begins m fronts text referrer e found = by (scoped_match fronts text referrer m.scopes) refl found
  where
    by : (o : Option (List ℕ × Option Parts)) → scoped_match fronts text referrer m.scopes ≡ o
        → or_else o (match_in fronts text m.imports) ≡ Some e → begins text e.0 ≡ true
    by (Some x) is there =
        scoped_begins fronts text (longest (passes_scope fronts text referrer) m.scopes) e (is ∙ there)
    by None is there = in_begins fronts text m.imports e there

-- ---- scopes that are read

-- what holds of each, and of what is put at a key, holds of each then
all_insert : (P : Addresses → Type 0) (scopes : Table Addresses) (key : List ℕ) (table : Addresses)
    → AllByRecursion (λ e. P e.1) scopes → P table → AllByRecursion (λ e. P e.1) (with_key scopes key table)
all_insert P [] key table h p = (p, tt)
all_insert P (e ∷ es) key table h p = by (slice_cmp nat_cmp key e.0) (all_insert P es key table h.1 p)
  where
    by : (o : Ordering) → AllByRecursion (λ x. P x.1) (with_key es key table)
        → AllByRecursion (λ x. P x.1)
        (match_ordering o ((key, table) ∷ e ∷ es) ((e.0, table) ∷ es) (e ∷ with_key es key table))
    by Less rest = (p, h)
    by Equal rest = (p, h.1)
    by Greater rest = (h.0, rest)

pub scope_kept : (r : Parsed Parts) (scopes : Table Addresses) (table : Addresses)
    → AllByRecursion (λ e. IsInOrder e.1) scopes → IsInOrder table
    → AllByRecursion (λ e. IsInOrder e.1) (with_scope r scopes table)
scope_kept (Ok url) scopes table h p = all_insert (λ t. IsInOrder t) scopes (serialize url) table h p
scope_kept (Err e) scopes table h p = h

-- ---- empty tables

pub empty_in_order : {V : Type 0} (table : Table V) → table ≡ [] → IsInOrder table
unfolding IsStrictlySortedBy
empty_in_order table is = rw is tt

pub scopes_empty : (table : Table Addresses) → table ≡ [] → AreInOrder table
scopes_empty table is = record { keys = empty_in_order table is; each = rw is tt }
