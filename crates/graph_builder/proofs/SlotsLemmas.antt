-- How slots grow.
use Rattle.std.proofs.Common.{◌≡◌, ◌⊎◌, inl, inr, ℕ, Bool, true, false, cond, List, [], ◌∷◌, ◌++◌, refl, sym, ◌∙◌, ap, Option, Some, None}
use Rattle.std.specs.Prelude.{bytes_eq, is_some, ◌||◌}
use Rattle.std.specs.List.{list_any, AllByRecursion}
use Rattle.graph_builder.specs.ByText.{value_at}
use Rattle.std.specs.Cmp.Lexicographic.{nat_list_eq_equiv}
use Rattle.std.proofs.lemmas.List.Folds.{list_any-append}
use Rattle.std.proofs.lemmas.Map.Keys.{IsDistinct-push}
use Rattle.url.specs.Parts.{Parts}
use Rattle.graph_entry.specs.Specifier.{text_of}
use Rattle.graph_builder.specs.declared.slot.Slot.{Slot}
use Rattle.graph_builder.specs.declared.slot.Slot.TheVariants.{Queued}
use Rattle.graph_builder.specs.Reach.{Specifier, has}
use Rattle.graph_builder.specs.Slots.{Slots, HasGrown, IsOverfull}

-- ---- lists of specifiers

-- what a longer list has
pub has_append : (xs ys : List Specifier) (t : Specifier) → has (xs ++ ys) t ≡ true
    → (has xs t ≡ true) ⊎ (has ys t ≡ true)
has_append xs ys t h = either (has xs t) (has ys t) (sym (list_any-append (bytes_eq t) xs ys) ∙ h)
  where
    either : (a b : Bool) → (a || b) ≡ true → (a ≡ true) ⊎ (b ≡ true)
    either true b h = inl refl
    either false b h = inr h

pub has_left : (xs ys : List Specifier) (t : Specifier) → has xs t ≡ true → has (xs ++ ys) t ≡ true
has_left xs ys t h = list_any-append (bytes_eq t) xs ys ∙ rw h refl

pub has_right : (xs ys : List Specifier) (t : Specifier) → has ys t ≡ true → has (xs ++ ys) t ≡ true
has_right xs ys t h = list_any-append (bytes_eq t) xs ys ∙ rw h (or_true (has xs t))
  where
    or_true : (a : Bool) → (a || true) ≡ true
    or_true true = refl
    or_true false = refl

-- what a list of one has
pub has_one : (s t : Specifier) → has (s ∷ []) t ≡ bytes_eq t s
has_one s t = or_false (bytes_eq t s)
  where
    or_false : (a : Bool) → (a || false) ≡ a
    or_false true = refl
    or_false false = refl

-- an equal specifier is in the same lists
pub has_same : (xs : List Specifier) (s t : Specifier) → bytes_eq t s ≡ true → has xs t ≡ has xs s
has_same [] s t h = refl
has_same (x ∷ xs) s t h = rw (nat_list_eq_equiv.congr t s x h, has_same xs s t h) refl

-- ---- growth

-- nothing came
pub grown_none : (slots : Slots) (todo : List Specifier) → HasGrown [] slots slots todo todo
grown_none slots todo = record {
  kept = λ t x h. h;
  came = λ t h n. absurd cc;
  fresh = λ t x h. inl h;
  listed = λ t h. inl h;
  still = λ t h. h;
  joined = λ t n h. absurd cc;
  once = λ d open_yet. d;
}

-- what came had a slot already
pub grown_already : (s : Specifier) (slots : Slots) (todo : List Specifier)
    → ((t : Specifier) → bytes_eq t s ≡ true → slots t ≡ None → ⊥)
    → HasGrown (s ∷ []) slots slots todo todo
grown_already s slots todo there = record {
  kept = λ t x h. h;
  came = λ t h n. there t (sym (has_one s t) ∙ h) n;
  fresh = λ t x h. inl h;
  listed = λ t h. inl h;
  still = λ t h. h;
  joined = λ t n h. absurd cc;
  once = λ d open_yet. d;
}

-- what came is new
pub grown_put : (s : Specifier) (old new : Slots) (todo : List Specifier)
    → ((t : Specifier) → bytes_eq t s ≡ true → old t ≡ None)
    → ((t : Specifier) → new t ≡ cond (bytes_eq t s) (Some Queued) (old t))
    → HasGrown (s ∷ []) old new todo (todo ++ s ∷ [])
grown_put s old new todo open_yet put = record {
  kept = λ t x h. kept t x (bytes_eq t s) refl h;
  came = λ t h n. came t (sym (has_one s t) ∙ h) n;
  fresh = λ t x h. fresh t x (bytes_eq t s) refl (sym (put t) ∙ h);
  listed = λ t h. listed t (has_append todo (s ∷ []) t h);
  still = λ t h. has_left todo (s ∷ []) t h;
  joined = λ t n h. joined t (bytes_eq t s) refl (sym (put t) ∙ h) n;
  once = λ d there. IsDistinct-push nat_list_eq_equiv todo s d (absent (has todo s) refl there);
}
  where
    kept : (t : Specifier) (x : Slot) (b : Bool) → bytes_eq t s ≡ b → old t ≡ Some x → new t ≡ Some x
    kept t x true e h = absurd (let n = open_yet t e in cc)
    kept t x false e h = put t ∙ rw e h

    came : (t : Specifier) → bytes_eq t s ≡ true → new t ≡ None → ⊥
    came t e n = let is : new t ≡ Some Queued = put t ∙ rw e refl in cc

    fresh : (t : Specifier) (x : Slot) (b : Bool) → bytes_eq t s ≡ b → cond b (Some Queued) (old t) ≡ Some x
        → (old t ≡ Some x) ⊎ ((old t ≡ None) × (has (s ∷ []) t ≡ true) × (x ≡ Queued))
    fresh t x true e h = inr (open_yet t e, has_one s t ∙ e, cc)
    fresh t x false e h = inl h

    listed : (t : Specifier) → (has todo t ≡ true) ⊎ (has (s ∷ []) t ≡ true)
        → (has todo t ≡ true) ⊎ ((old t ≡ None) × (new t ≡ Some Queued))
    listed t (inl h) = inl h
    listed t (inr h) = let e : bytes_eq t s ≡ true = sym (has_one s t) ∙ h in inr (open_yet t e, put t ∙ rw e refl)

    joined : (t : Specifier) (b : Bool) → bytes_eq t s ≡ b → cond b (Some Queued) (old t) ≡ Some Queued → old t ≡ None
        → has (todo ++ s ∷ []) t ≡ true
    joined t true e h n = has_right todo (s ∷ []) t (has_one s t ∙ e)
    joined t false e h n = absurd cc

    absent : (b : Bool) → has todo s ≡ b → ((t : Specifier) → has todo t ≡ true → old t ≡ None → ⊥)
        → list_any (bytes_eq s) todo ≡ false
    absent true e there = absurd (there s e (open_yet s (nat_list_eq_equiv.refl s)))
    absent false e there = e

-- one growth after another
pub grown_more : (xs ys : List Specifier) (a b c : Slots) (k l m : List Specifier)
    → HasGrown xs a b k l → HasGrown ys b c l m → HasGrown (xs ++ ys) a c k m
grown_more xs ys a b c k l m g h = record {
  kept = λ t x e. h.kept t x (g.kept t x e);
  came = λ t e n. came t (has_append xs ys t e) n;
  fresh = λ t x e. fresh t x (h.fresh t x e);
  listed = λ t e. listed t (h.listed t e);
  still = λ t e. h.still t (g.still t e);
  joined = λ t n e. joined t n e (h.fresh t Queued e);
  once = λ d there. h.once (g.once d there) (λ t e n. open_listed t n (g.listed t e) there);
}
  where
    some_of : (t : Specifier) (o : Option Slot) → b t ≡ o → (b t ≡ None → ⊥) → c t ≡ None → ⊥
    some_of t None e some n = some e
    some_of t (Some x) e some n = let k = h.kept t x e in cc

    came : (t : Specifier) → (has xs t ≡ true) ⊎ (has ys t ≡ true) → c t ≡ None → ⊥
    came t (inl e) n = some_of t (b t) refl (g.came t e) n
    came t (inr e) n = h.came t e n

    none_before : (t : Specifier) (o : Option Slot) → a t ≡ o → b t ≡ None → a t ≡ None
    none_before t None e n = e
    none_before t (Some x) e n = absurd (let k = g.kept t x e in cc)

    widened : (t : Specifier) (x : Slot) → (a t ≡ Some x) ⊎ ((a t ≡ None) × (has xs t ≡ true) × (x ≡ Queued))
        → (a t ≡ Some x) ⊎ ((a t ≡ None) × (has (xs ++ ys) t ≡ true) × (x ≡ Queued))
    widened t x (inl e) = inl e
    widened t x (inr e) = inr (e.0, has_left xs ys t e.1, e.2)

    fresh : (t : Specifier) (x : Slot) → (b t ≡ Some x) ⊎ ((b t ≡ None) × (has ys t ≡ true) × (x ≡ Queued))
        → (a t ≡ Some x) ⊎ ((a t ≡ None) × (has (xs ++ ys) t ≡ true) × (x ≡ Queued))
    fresh t x (inl e) = widened t x (g.fresh t x e)
    fresh t x (inr e) = inr (none_before t (a t) refl e.0, has_right xs ys t e.1, e.2)

    listed_first : (t : Specifier) → (has k t ≡ true) ⊎ ((a t ≡ None) × (b t ≡ Some Queued))
        → (has k t ≡ true) ⊎ ((a t ≡ None) × (c t ≡ Some Queued))
    listed_first t (inl e) = inl e
    listed_first t (inr e) = inr (e.0, h.kept t Queued e.1)

    listed : (t : Specifier) → (has l t ≡ true) ⊎ ((b t ≡ None) × (c t ≡ Some Queued))
        → (has k t ≡ true) ⊎ ((a t ≡ None) × (c t ≡ Some Queued))
    listed t (inl e) = listed_first t (g.listed t e)
    listed t (inr e) = inr (none_before t (a t) refl e.0, e.1)

    joined : (t : Specifier) → a t ≡ None → c t ≡ Some Queued
        → (b t ≡ Some Queued) ⊎ ((b t ≡ None) × (has ys t ≡ true) × (Queued ≡ Queued)) → has m t ≡ true
    joined t n q (inl e) = h.still t (g.joined t n e)
    joined t n q (inr e) = h.joined t e.0 q

    open_listed : (t : Specifier) → b t ≡ None → (has k t ≡ true) ⊎ ((a t ≡ None) × (b t ≡ Some Queued))
        → ((t : Specifier) → has k t ≡ true → a t ≡ None → ⊥) → ⊥
    open_listed t n (inl e) there = there t e (none_before t (a t) refl n)
    open_listed t n (inr e) there = cc

-- what a list has that came, and a slot that it had
widen_each : (xs ys : List Specifier) (a b : Slots) (k l : List Specifier) → HasGrown xs a b k l → (t : Specifier)
    → (b t ≡ None → ⊥) ⊎ (has ys t ≡ true) → (a t ≡ None → ⊥) ⊎ (has (xs ++ ys) t ≡ true)
widen_each xs ys a b k l g t (inr e) = inr (has_right xs ys t e)
widen_each xs ys a b k l g t (inl some) = by (b t) refl
  where
    from : (x : Slot) → (a t ≡ Some x) ⊎ ((a t ≡ None) × (has xs t ≡ true) × (x ≡ Queued))
        → (a t ≡ None → ⊥) ⊎ (has (xs ++ ys) t ≡ true)
    from x (inl e) = inl (λ n. cc)
    from x (inr e) = inr (has_left xs ys t e.1)

    by : (o : Option Slot) → b t ≡ o → (a t ≡ None → ⊥) ⊎ (has (xs ++ ys) t ≡ true)
    by None e = absurd (some e)
    by (Some x) e = from x (g.fresh t x e)

-- too much, after some growth
pub overfull_more : (xs ys : List Specifier) (a b : Slots) (k l : List Specifier) (limit seen : ℕ)
    → HasGrown xs a b k l → IsOverfull ys b limit seen → IsOverfull (xs ++ ys) a limit seen
overfull_more xs ys a b k l limit seen g full = record {
  above = full.above;
  members = full.members;
  counted = full.counted;
  once = full.once;
  each = λ t e. widen_each xs ys a b k l g t (full.each t e);
}

-- a specifier that isn't in a list is apart from each in it
pub none_equal : (s : Specifier) (xs : List Specifier) → has xs s ≡ false
    → AllByRecursion (λ y. bytes_eq s y ≡ false) xs
none_equal s [] h = tt
none_equal s (x ∷ xs) h = (first (bytes_eq s x) (has xs s) h, none_equal s xs (second (bytes_eq s x) (has xs s) h))
  where
    first : (a b : Bool) → (a || b) ≡ false → a ≡ false
    first true b h = h
    first false b h = refl

    second : (a b : Bool) → (a || b) ≡ false → b ≡ false
    second true b h = absurd cc
    second false b h = h

-- what has a slot, by the test
pub none_from_test : {A : Type 0} (o : Option A) → is_some o ≡ false → o ≡ None
none_from_test None h = refl
none_from_test (Some x) h = absurd cc

pub some_from_test : {A : Type 0} (o : Option A) → is_some o ≡ true → o ≡ None → ⊥
some_from_test o h n = let other : is_some o ≡ false = ap is_some n in cc

-- an equal specifier has the same slot
pub value_at_same : {V : Type 0} (entries : List (Parts × V)) (s t : Specifier) → bytes_eq t s ≡ true
    → value_at entries t ≡ value_at entries s
value_at_same [] s t h = refl
value_at_same (e ∷ es) s t h = rw (nat_list_eq_equiv.congr t s (text_of e.0) h, value_at_same es s t h) refl
