-- An empty list says that each name which is left at run time is declared or allowed, and that no node is listed; and where
-- it is so, the list is empty.
use Rattle.std.specs.Prelude.{ℕ, zero, suc, ◌==◌, ◌<◌, ◌+◌, Bool, true, false, not, ◌&&◌, if◌then◌else◌, List, [], ◌∷◌, ◌++◌, map, length, Option, Some, None, filter_map, All, Contains, ◌⊎◌, slice_index_or}
use Rattle.std.specs.List.{cons_option}
use Rattle.std.specs.Option.{option_and_then}
use Rattle.std.proofs.Common.{◌≡◌, inl, inr, refl, sym, ap, ◌∙◌, arith}
use Rattle.std.proofs.lemmas.Bool.Decides.{nat_tests}
use Rattle.es_token.specs.declared.token.Token.{Token}
use Rattle.es_grammar.specs.declared.cst.tree.Cst.{Cst}
use Rattle.es_scopes.specs.declared.steps.Mark.TheVariants as mark
use Rattle.es_scopes.specs.Marks.{Marks, body_marks}
use Rattle.es_scopes.specs.Numbers.{Scope, Named, named_in, closed, declares, declaring, number_of, numbered, spelled, ids_in}
use Rattle.es_mentions.specs.declared.listed.Reason.{Reason}
use Rattle.es_mentions.specs.declared.listed.Reason.TheVariants as reason
use Rattle.es_mentions.specs.declared.listed.Mention.{Mention}
use Rattle.es_mentions.specs.Nodes.{Node, nodes}
use Rattle.es_mentions.specs.Words.{is_allowed, range_at}
use Rattle.es_mentions.specs.Kinds.{is_closed, gone_of, reason_by, listed_as, event_by, event_of}
use Rattle.es_mentions.specs.Mentions.{is_script_tree, living, events, early, late, merged, listed_in, name_mention, names, others, mentions}
use Rattle.es_mentions.specs.Quiet.{IsDeclared, names_left, IsQuiet}

-- ---- lists
no_cons : {A : Type 0} (xs : List A) (a : A) (ys : List A) → xs ++ a ∷ ys ≡ [] → ⊥
no_cons [] a ys e = let bad : ⊥ = cc in bad
no_cons (y ∷ xs) a ys e = let bad : ⊥ = cc in bad

merged_none : (some others : List Mention) → merged some others ≡ [] → (some ≡ []) × (others ≡ [])
merged_none [] others e = (refl, e)
merged_none (m ∷ ms) others e =
    absurd (no_cons (early m.range.start others) m (merged ms (late m.range.start others)) e)

module _ {A : Type 0} (P : A → Type 0) where
  more_at : (a : A) (xs : List A) → P a → All P xs → (k : ℕ) (d : A) → k < length (a ∷ xs)
      → P (slice_index_or (a ∷ xs) k d)
  more_at a xs one all zero d p = one
  more_at a xs one all (suc k) d p = all k d (omega (arith, p))

  all_more : (a : A) (xs : List A) → P a → All P xs → All P (a ∷ xs)
  all_more a xs one all = λ k d p. more_at a xs one all k d p

  all_empty : All P []
  all_empty = λ k d p. absurd (let bad : ⊥ = omega (arith, p) in bad)

  all_behind : (a : A) (xs : List A) → All P (a ∷ xs) → All P xs
  all_behind a xs all = λ k d p. all (suc k) d (omega (arith, p))

all_so : {A : Type 0} (P Q : A → Type 0) (xs : List A) → ((a : A) → P a → Q a) → All P xs → All Q xs
all_so P Q xs f all = λ k d p. f (slice_index_or xs k d) (all k d p)

all_both : {A : Type 0} (P Q R : A → Type 0) (xs : List A) → ((a : A) → P a → Q a → R a) → All P xs → All Q xs
    → All R xs
all_both P Q R xs f all others = λ k d p. f (slice_index_or xs k d) (all k d p) (others k d p)

module _ {A B : Type 0} (h : A → Option B) where
  abbrev is_none_at : A → Type 0
  is_none_at a = h a ≡ None

  none_more : (o : Option B) (a : A) (xs : List A) (rest : List B) → h a ≡ o → cons_option o rest ≡ []
      → (rest ≡ [] → All is_none_at xs) → All is_none_at (a ∷ xs)
  none_more None a xs rest is e others = all_more is_none_at a xs is (others e)
  none_more (Some b) a xs rest is e others = let bad : ⊥ = cc in absurd bad

  all_none : (xs : List A) → filter_map h xs ≡ [] → All is_none_at xs
  all_none [] e = all_empty is_none_at
  all_none (a ∷ xs) e = none_more (h a) a xs (filter_map h xs) refl e (λ rest. all_none xs rest)

  none_all : (xs : List A) → All is_none_at xs → filter_map h xs ≡ []
  none_all [] all = refl
  none_all (a ∷ xs) all =
      ap (λ (o : Option B). cons_option o (filter_map h xs)) (all 0 a (omega arith))
      ∙ none_all xs (all_behind is_none_at a xs all)

mapped : {A B C : Type 0} (h : B → Option C) (f : A → B) (xs : List A)
    → filter_map h (map f xs) ≡ filter_map (λ a. h (f a)) xs
mapped h f [] = refl
mapped h f (a ∷ xs) = ap (cons_option (h (f a))) (mapped h f xs)

kept_cons : {B C : Type 0} (g : B → Option C) (o : Option B) (ys : List B)
    → filter_map g (cons_option o ys) ≡ cons_option (option_and_then g o) (filter_map g ys)
kept_cons g None ys = refl
kept_cons g (Some b) ys = refl

twice : {A B C : Type 0} (g : B → Option C) (f : A → Option B) (xs : List A)
    → filter_map g (filter_map f xs) ≡ filter_map (λ a. option_and_then g (f a)) xs
twice g f [] = refl
twice g f (a ∷ xs) =
    kept_cons g (f a) (filter_map f xs) ∙ ap (cons_option (option_and_then g (f a))) (twice g f xs)

-- ---- scopes have numbers from 1 on
abbrev has_number : Scope → Type 0
has_number s = (s.number == 0) ≡ false

abbrev have_numbers : Named → Type 0
have_numbers it = All has_number it.around

above_zero : (n : ℕ) → 0 < n → (n == 0) ≡ false
above_zero n p = grind (arith, nat_tests)

closed_numbers : (around : List Scope) → All has_number around → All has_number (closed around)
closed_numbers [] all = all
closed_numbers (s ∷ around) all = all_behind has_number s around all

numbers : (around : List Scope) (next : ℕ) (found : Marks) → All has_number around → 0 < next
    → All have_numbers (named_in around next found)
numbers around next [] all more = all_empty have_numbers
numbers around next (mark.Open hoists ∷ rest) all more =
    let s : Scope = record { number = next; hoists = hoists } in
    numbers (s ∷ around) (next + 1) rest (all_more has_number s around (above_zero next more) all) (omega arith)
numbers around next (mark.Close ∷ rest) all more = numbers (closed around) next rest (closed_numbers around all) more
numbers around next (mark.Name place token ∷ rest) all more =
    let it : Named = record { place = place; token = token; around = around } in
    all_more have_numbers it (named_in around next rest) all (numbers around next rest all more)

module _ (x : List ℕ) (ts : List Token) (names : List Named) (name : Option (List ℕ)) where
  abbrev home_of : List Scope → ℕ
  home_of around = declaring x ts names name around

  abbrev declares_so : Scope → Type 0
  declares_so s = declares x ts names s.number name ≡ true

  abbrev Declares : List Scope → Type 0
  Declares around = (s : Scope) × Contains around s × declares_so s

  declared_more : (b : Bool) (s : Scope) (around : List Scope) → declares x ts names s.number name ≡ b
      → ((if b then s.number else home_of around) == 0) ≡ false
      → ((home_of around == 0) ≡ false → Declares around) → Declares (s ∷ around)
  declared_more true s around is e others = (s, (0, omega arith, refl), is)
  declared_more false s around is e others =
      let found = others e in
      (found.0, (suc found.1.0, omega (arith, found.1.1), found.1.2), found.2)

  declared_by : (around : List Scope) → (home_of around == 0) ≡ false → Declares around
  declared_by [] e = let bad : ⊥ = cc in absurd bad
  declared_by (s ∷ around) e =
      declared_more (declares x ts names s.number name) s around refl e (λ inner. declared_by around inner)

  not_more : (b : Bool) (t : Scope) (around : List Scope) (s : Scope) → declares x ts names t.number name ≡ b
      → has_number t → declares_so s → (k : ℕ) → k < length (t ∷ around) → slice_index_or (t ∷ around) k s ≡ s
      → (Contains around s → (home_of around == 0) ≡ false)
      → ((if b then t.number else home_of around) == 0) ≡ false
  not_more true t around s is one so k p at others = one
  not_more false t around s is one so zero p at others =
      let same : declares x ts names t.number name ≡ true =
      ap (λ (u : Scope). declares x ts names u.number name) at ∙ so in
      let bad : ⊥ = cc in absurd bad
  not_more false t around s is one so (suc k) p at others = others (k, omega (arith, p), at)

  not_zero : (around : List Scope) (s : Scope) → All has_number around → Contains around s → declares_so s
      → (home_of around == 0) ≡ false
  not_zero [] s all within so = absurd (let bad : ⊥ = omega (arith, within.1) in bad)
  not_zero (t ∷ around) s all within so =
      not_more (declares x ts names t.number name) t around s refl (all 0 t (omega arith)) so within.0 within.1
      within.2 (λ inner. not_zero around s (all_behind has_number t around all) inner so)

-- ---- what is listed where
module _ {A : Type 0} (m : A) where
  none_if : (b c : Bool) → (if b && not c then Some m else None) ≡ None → (b ≡ false) ⊎ (c ≡ true)
  none_if false c e = inl refl
  none_if true true e = inr refl
  none_if true false e = let bad : ⊥ = cc in absurd bad

  if_first : (b c : Bool) → b ≡ false → (if b && not c then Some m else None) ≡ None
  if_first false c e = refl
  if_first true c e = let bad : ⊥ = cc in absurd bad

  if_second : (b c : Bool) → c ≡ true → (if b && not c then Some m else None) ≡ None
  if_second false c e = refl
  if_second true true e = refl
  if_second true false e = let bad : ⊥ = cc in absurd bad

module _ (x : List ℕ) (ts : List Token) (allowed : List (List ℕ)) (script : Bool) (all_names : List Named) where
  abbrev told : Named → Option Mention
  told it = name_mention x ts allowed script (it.token, number_of x ts all_names it)

  abbrev mention_of : Named → Mention
  mention_of it = record { reason = reason.Name; range = range_at ts it.token }

  abbrev own_or_allowed : Named → Type 0
  own_or_allowed it = IsDeclared x ts all_names it ⊎ (is_allowed x ts allowed script it.token ≡ true)

  own_by : (it : Named)
      → ((number_of x ts all_names it == 0) ≡ false) ⊎ (is_allowed x ts allowed script it.token ≡ true)
      → own_or_allowed it
  own_by it (inl number) =
      let found = declared_by x ts all_names (spelled x ts it) it.around number in
      inl (record { scope = found.0; around = found.1; so = found.2 })
  own_by it (inr so) = inr so

  -- a name that isn't listed
  unlisted : (it : Named) → told it ≡ None → own_or_allowed it
  unlisted it e =
      own_by it (none_if (mention_of it) (number_of x ts all_names it == 0) (is_allowed x ts allowed script it.token) e)

  -- and the other way round
  not_listed : (it : Named) → All has_number it.around → own_or_allowed it → told it ≡ None
  not_listed it all (inl own) =
      if_first (mention_of it) (number_of x ts all_names it == 0) (is_allowed x ts allowed script it.token)
      (not_zero x ts all_names (spelled x ts it) it.around own.scope all own.around own.so)
  not_listed it all (inr so) =
      if_second (mention_of it) (number_of x ts all_names it == 0) (is_allowed x ts allowed script it.token) so

  names_none : (some : List Named) → filter_map (name_mention x ts allowed script) (numbered x ts all_names some) ≡ []
      → All own_or_allowed some
  names_none some e =
      all_so (is_none_at told) own_or_allowed some unlisted
      (all_none told some (sym (mapped (name_mention x ts allowed script)
      (λ it. (it.token, number_of x ts all_names it)) some) ∙ e))

  none_names : (some : List Named) → All have_numbers some → All own_or_allowed some
      → filter_map (name_mention x ts allowed script) (numbered x ts all_names some) ≡ []
  none_names some numbered all =
      mapped (name_mention x ts allowed script) (λ it. (it.token, number_of x ts all_names it)) some
      ∙ none_all told some
      (all_both have_numbers own_or_allowed (is_none_at told) some not_listed numbered all)

-- ---- nodes
module _ (x : List ℕ) (ts : List Token) (script strict : Bool) where
  abbrev is_unlisted : Node → Type 0
  is_unlisted n = gone_of n ≡ None → reason_by x ts script strict n.label n.parts ≡ None

  abbrev said : Node → Option Mention
  said n = option_and_then listed_in (event_of x ts script strict n)

  said_by : (n : Node) (why : Option Reason) → option_and_then listed_in (listed_as x ts script strict n why) ≡ None
      → why ≡ None
  said_by n None e = refl
  said_by n (Some why) e = let bad : ⊥ = cc in absurd bad

  unsaid : (n : Node) → said n ≡ None → is_unlisted n
  unsaid n e is =
      said_by n (reason_by x ts script strict n.label n.parts)
      (sym (ap (λ g. option_and_then listed_in (event_by x ts script strict n g)) is) ∙ e)

  not_said_by : (n : Node) (g : Option (ℕ × ℕ))
      → (g ≡ None → reason_by x ts script strict n.label n.parts ≡ None)
      → option_and_then listed_in (event_by x ts script strict n g) ≡ None
  not_said_by n (Some g) un = refl
  not_said_by n None un = ap (λ why. option_and_then listed_in (listed_as x ts script strict n why)) (un refl)

  not_said : (n : Node) → is_unlisted n → said n ≡ None
  not_said n un = not_said_by n (gone_of n) un

-- ---- the whole
module _ (x : List ℕ) (ts : List Token) (allowed : List (List ℕ)) (strict : Bool) (tree : Cst) where
  abbrev script : Bool
  script = is_script_tree tree

  -- an empty list says so
  pub nothing_said : mentions x ts allowed strict tree ≡ [] → IsQuiet x ts allowed strict tree
  unfolding mentions names others ids_in
  nothing_said e =
      let both = merged_none (names x ts allowed strict tree) (others x ts strict tree) e in
      record {
        of_names = names_none x ts allowed script (names_left x ts strict tree) (names_left x ts strict tree) both.0;
        of_nodes = all_so (is_none_at (said x ts script strict)) (is_unlisted x ts script strict)
            (nodes (is_closed x ts) tree) (unsaid x ts script strict)
            (all_none (said x ts script strict) (nodes (is_closed x ts) tree)
            (sym (twice listed_in (event_of x ts script strict) (nodes (is_closed x ts) tree)) ∙ both.1));
      }

  -- and where it is so, the list is empty
  pub quiet_nothing : IsQuiet x ts allowed strict tree → mentions x ts allowed strict tree ≡ []
  unfolding mentions names others ids_in
  quiet_nothing quiet =
      let no_name : names x ts allowed strict tree ≡ [] =
      none_names x ts allowed script (names_left x ts strict tree) (names_left x ts strict tree)
      (numbers [] 1 (living (events x ts strict tree) (body_marks ts tree)) (all_empty has_number)
      (omega arith)) quiet.of_names in
      let no_node : others x ts strict tree ≡ [] =
      twice listed_in (event_of x ts script strict) (nodes (is_closed x ts) tree)
      ∙ none_all (said x ts script strict) (nodes (is_closed x ts) tree)
      (all_so (is_unlisted x ts script strict) (is_none_at (said x ts script strict)) (nodes (is_closed x ts) tree)
      (not_said x ts script strict) quiet.of_nodes) in
      ap (λ ms. merged ms (others x ts strict tree)) no_name ∙ no_node
