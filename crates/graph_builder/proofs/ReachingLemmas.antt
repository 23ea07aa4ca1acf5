-- Reaching one specifier after another.
use Rattle.std.proofs.Common.{◌≡◌, ◌⊎◌, inl, inr, ◌≤◌, ◌<◌, zero, suc, ℕ, ◌+◌, ◌-◌, Bool, true, false, cond, List, [], ◌∷◌, ◌++◌, map, length, take, drop, slice_get, get_or, refl, sym, subst, ◌∙◌, ap, arith, Option, Some, None, Result, Ok, Err, add-one, append-nil, append_assoc, length-append}
use Rattle.std.specs.Prelude.{bytes_eq, is_some, ◌||◌, option_to_list, fold, OnOk}
use Rattle.std.specs.List.{filter_map, cons_option, IsDistinct}
use Rattle.std.proofs.lemmas.List.{map_more, length-map, length-drop}
use Rattle.std.proofs.lemmas.List.Sums.{fold-append}
use Rattle.std.proofs.lemmas.Map.Keys.{IsDistinct-cons}
use Rattle.url.specs.Parts.{Parts}
use Rattle.media_type.specs.MediaType.{is_typed}
use Rattle.graph_entry.specs.Specifier.{text_of}
use Rattle.graph_entry.specs.Entry.{edge_target}
use Rattle.graph_entry.specs.declared.entry.Dependency.{Dependency}
use Rattle.graph_entry.specs.declared.entry.Entry.{Entry}
use Rattle.graph_entry.specs.declared.entry.JsModule.{JsModule}
use Rattle.graph_entry.specs.declared.entry.Module.{Module}
use Rattle.graph_entry.specs.declared.entry.Module.TheVariants.{Js}
use Rattle.graph_builder.specs.declared.following.Following.{Following}
use Rattle.graph_builder.specs.Rules.{edges_of, led_to, has_types, is_followed, targets}
use Rattle.graph_builder.specs.declared.reaching.Reaching.{Reaching}
use Rattle.graph_builder.specs.declared.reaching.GrowError.{GrowError}
use Rattle.graph_builder.specs.declared.reaching.GrowError.TheVariants.{TooMany, OutOfMemory}
use Rattle.graph_builder.specs.declared.slot.Slot.{Slot}
use Rattle.graph_builder.specs.declared.slot.Slot.TheVariants.{Queued, Done}
use Rattle.graph_builder.specs.Reach.{Specifier, Rules, has}
use Rattle.graph_builder.specs.Graph.{texts, with_one}
use Rattle.graph_builder.specs.ByText.{value_at, keys_at, number_of}
use Rattle.graph_builder.specs.Builder.{GoesOn}
use Rattle.graph_builder.specs.Slots.{IsOverfull}
use Rattle.graph_builder.specs.Links.{no_link, IsKept, IsLink, AreLinks, IsOneMore}
use Rattle.graph_builder.specs.Reaching.{slots_of, todo_of, HasRoom, HasReached, IsMarked, IsFilled, Fills, Grows, TakesNext}
use Rattle.graph_builder.proofs.ByTextLemmas.{has-keys_at}
use Rattle.graph_builder.proofs.LinksLemmas.{links_later, links_push}
use Rattle.graph_builder.proofs.NumberLemmas.{absent, present, value_at-push, keys-push, todo-push, drop_next, drop_none, slice_get-append}
use Rattle.graph_builder.proofs.SlotsLemmas.{grown_none, grown_already, grown_put, grown_more, overfull_more, has_one, none_equal, value_at_same}

-- ---- the specifiers so far

-- a list goes on when others come
pub goes_on_with : (ts come : List Specifier) → GoesOn ts (fold with_one ts come)
goes_on_with ts [] = ([], sym (append-nil ts))
goes_on_with ts (t ∷ come) = by (has ts t) (λ us. goes_on_with us come)
  where
    by : (b : Bool) → ((us : List Specifier) → GoesOn us (fold with_one us come))
        → GoesOn ts (fold with_one (cond b ts (ts ++ t ∷ [])) come)
    by true more = more ts
    by false more =
        let r = more (ts ++ t ∷ []) in (t ∷ r.0, r.1 ∙ append_assoc ts (t ∷ []) r.0)

pub goes_on_more : (a b c : List Specifier) → GoesOn a b → GoesOn b c → GoesOn a c
goes_on_more a b c g h = (g.0 ++ h.0, h.1 ∙ ap (λ w. w ++ h.0) g.1 ∙ append_assoc a g.0 h.0)

pub goes_on_same : (a b : List Specifier) → b ≡ a → GoesOn a b
goes_on_same a b is = ([], is ∙ sym (append-nil a))

-- what stands at a number stays there
pub key_later : (a b : List Specifier) (n : ℕ) (s : Specifier) → GoesOn a b → slice_get a n ≡ Some s
    → slice_get b n ≡ Some s
key_later a b n s g h = ap (λ l. slice_get l n) g.1 ∙ slice_get-append a g.0 n s h

pub length-keys : {V : Type 0} (entries : List (Parts × V)) → length (keys_at entries) ≡ length entries
length-keys {V} entries = length-map entries (λ (e : Parts × V). text_of e.0)

pub length-todo : (r : Reaching) → length (todo_of r) ≡ length r.reached - r.next
length-todo r = length-drop r.next (keys_at r.reached) ∙ ap (λ (n : ℕ). n - r.next) (length-keys r.reached)

-- ---- reaching

-- nothing came
pub reached_none : (r : Reaching) → HasRoom r → HasReached [] r r
reached_none r room = record {
  grown = grown_none (slots_of r) (todo_of r);
  counted = refl;
  room = room;
  next = refl;
  all = refl;
}

-- what came has a number already
pub reached_already : (r : Reaching) (s : Specifier) (n : ℕ) → number_of r.reached s ≡ Some n → HasRoom r
    → HasReached (s ∷ []) r r
reached_already r s n there room = record {
  grown = grown_already s (slots_of r) (todo_of r)
      (λ t e none. present r.reached s n there (sym (value_at_same r.reached s t e) ∙ none));
  counted = refl;
  room = room;
  next = refl;
  all = by (has (keys_at r.reached) s) refl;
}
  where
    by : (b : Bool) → has (keys_at r.reached) s ≡ b
        → keys_at r.reached ≡ cond b (keys_at r.reached) (keys_at r.reached ++ s ∷ [])
    by true e = refl
    by false e = absurd (present r.reached s n there (none (value_at r.reached s) (sym (has-keys_at r.reached s) ∙ e)))
      where
        none : (o : Option Slot) → is_some o ≡ false → o ≡ None
        none None h = refl
        none (Some x) h = absurd cc

-- what came gets the next number
pub reached_push : (r new : Reaching) (s : Specifier) (u : Parts) → number_of r.reached s ≡ None → text_of u ≡ s
    → new.reached ≡ r.reached ++ (u, Queued) ∷ [] → new.next ≡ r.next → new.limit ≡ r.limit → HasRoom r
    → length r.reached < r.limit → HasReached (s ∷ []) r new
reached_push r new s u none same is next limit room fewer = record {
  grown = rw (
    is,
    next,
    keys-push r.reached u Queued s same,
    todo-push (keys_at r.reached) s r.next
        (omega (arith, room.within, length-keys r.reached)),
  )
      (grown_put s (slots_of r) (value_at (r.reached ++ (u, Queued) ∷ [])) (todo_of r)
      (λ t e. value_at_same r.reached s t e ∙ absent r.reached s none)
      (value_at-push r.reached u Queued s same (absent r.reached s none)));
  counted = omega (arith, long, length-todo r, length-todo new, next, room.within);
  room = record {
    within = omega (arith, next, room.within, long);
    room = omega (arith, limit, fewer, long);
  };
  next = next;
  all = ap keys_at is ∙ keys-push r.reached u Queued s same ∙ by (has (keys_at r.reached) s)
      (has-keys_at r.reached s ∙ ap is_some (absent r.reached s none));
}
  where
    long : length new.reached ≡ length r.reached + 1
    long = ap length is ∙ length-append r.reached ((u, Queued) ∷ [])

    by : (b : Bool) → b ≡ false → keys_at r.reached ++ s ∷ []
        ≡ cond b (keys_at r.reached) (keys_at r.reached ++ s ∷ [])
    by true e = absurd cc
    by false e = refl

-- more came
pub reached_more : (xs ys : List Specifier) (a b c : Reaching) → HasReached xs a b → HasReached ys b c
    → HasReached (xs ++ ys) a c
reached_more xs ys a b c g h = record {
  grown = grown_more xs ys (slots_of a) (slots_of b) (slots_of c) (todo_of a) (todo_of b) (todo_of c) g.grown h.grown;
  counted = omega (arith, g.counted, h.counted);
  room = h.room;
  next = h.next ∙ g.next;
  all = h.all ∙ ap (λ ts. fold with_one ts ys) g.all ∙ sym (fold-append with_one (keys_at a.reached) xs ys);
}

-- the limit is reached, and one more comes
pub overfull_here : (entries : List (Parts × Slot)) (s : Specifier) (limit : ℕ) → IsDistinct bytes_eq (keys_at entries)
    → number_of entries s ≡ None → length entries ≡ limit
    → IsOverfull (s ∷ []) (value_at entries) limit (length entries + 1)
overfull_here entries s limit once none full = record {
  above = omega arith;
  members = s ∷ keys_at entries;
  counted = ap suc (length-keys entries) ∙ omega arith;
  once = IsDistinct-cons bytes_eq s (keys_at entries)
      (none_equal s (keys_at entries) (has-keys_at entries s ∙ ap is_some (absent entries s none))) once;
  each = λ t h. each t (bytes_eq t s) refl h;
}
  where
    each : (t : Specifier) (b : Bool) → bytes_eq t s ≡ b → (b || has (keys_at entries) t) ≡ true
        → (value_at entries t ≡ None → ⊥) ⊎ (has (s ∷ []) t ≡ true)
    each t true e h = inr (has_one s t ∙ e)
    each t false e h = inl
        (λ n. let some : is_some (value_at entries t) ≡ true = sym (has-keys_at entries t) ∙ h in
        let other : is_some (value_at entries t) ≡ false = ap is_some n in cc)

-- ---- the queue

pub takes_none : (r : Reaching) → length r.reached ≤ r.next → TakesNext r r None
takes_none r through = (drop_none (keys_at r.reached) r.next (omega (arith, through, length-keys r.reached)), refl)

pub takes_one : (r new : Reaching) → r.next < length r.reached → new.reached ≡ r.reached → new.limit ≡ r.limit
    → new.next ≡ r.next + 1 → TakesNext r new (Some r.next)
takes_one r new open_yet is limit next =
    let d = drop_next (keys_at r.reached) r.next (omega (arith, open_yet, length-keys r.reached)) in (
      d.0,
      d.1 ∙ ap (λ l. d.0 ∷ l) (rw (is, next) refl),
      ap (λ es. slice_get (keys_at es) r.next) is ∙ d.2,
      is,
      limit,
      omega (arith, next, open_yet, ap length is),
    )

-- ---- links

-- what came last has the last number
pub key_last : (entries new : List (Parts × Slot)) (u : Parts) (s : Specifier) (n : ℕ) → text_of u ≡ s
    → n ≡ length entries → new ≡ entries ++ (u, Queued) ∷ [] → slice_get (keys_at new) n ≡ Some s
key_last entries new u s n same is longer =
    ap (λ (l : List Specifier). slice_get l n) (ap keys_at longer ∙ keys-push entries u Queued s same)
    ∙ last (keys_at entries) n (is ∙ sym (length-keys entries))
  where
    last : (ts : List Specifier) (n : ℕ) → n ≡ length ts → slice_get (ts ++ s ∷ []) n ≡ Some s
    last [] n h = rw h refl
    last (t ∷ ts) zero h = absurd (omega (arith, h))
    last (t ∷ ts) (suc n) h = last ts n (omega (arith, h))

-- one more of an entry's ends
pub ends_more : (ds : List Dependency) (i : ℕ) (d : Dependency) → i < length ds → d ≡ get_or ds i d
    → map edge_target (take (i + 1) ds) ≡ map edge_target (take i ds) ++ edge_target d ∷ []
ends_more ds i d within is = map_more edge_target ds i d within ∙ rw (← is) refl

-- a link that is kept
pub kept_link : (keys : List Specifier) (n x : ℕ) (t : Specifier) → slice_get keys n ≡ Some t → IsKept n x
    → IsLink keys x (Some t)
kept_link keys n x t at kept = λ some. ap (slice_get keys) (kept some) ∙ at

-- no link
pub none_left : (keys : List Specifier) (x : ℕ) (end : Option Specifier) → x ≡ no_link → IsLink keys x end
none_left keys x None is = tt
none_left keys x (Some t) is = λ some. absurd (omega (arith, is, some))

pub on_ok : {A E P Q : Type 0} (r : Result A E) → (P → Q) → OnOk r P → OnOk r Q
on_ok (Ok x) f h = f h
on_ok (Err e) f h = h

-- the links of a redirect
pub one_link : (keys : List Specifier) (old new : List ℕ) (t : Specifier) → old ≡ []
    → IsOneMore keys (Some t) old new → AreLinks keys new (Some t ∷ [])
one_link keys old new t none more =
    rw (more.1, none) (more.2, tt)

-- links stay links where more is reached, and one more comes
pub links_more : (come : List Specifier) (a b : Reaching) (old new : List ℕ) (ends : List (Option Specifier))
    (end : Option Specifier)
    → HasReached come a b → AreLinks (keys_at a.reached) old ends → IsOneMore (keys_at b.reached) end old new
    → AreLinks (keys_at b.reached) new (ends ++ end ∷ [])
links_more come a b old new ends end r links more =
    let g : GoesOn (keys_at a.reached) (keys_at b.reached) = rw r.all (goes_on_with (keys_at a.reached) come) in
    subst (λ (xs : List ℕ). AreLinks (keys_at b.reached) xs (ends ++ end ∷ [])) (sym more.1)
    (links_push (keys_at b.reached) old ends more.0 end
    (subst (λ (ks : List Specifier). AreLinks ks old ends) (sym g.1)
    (links_later (keys_at a.reached) g.0 old ends links))
    more.2)

-- ---- a slot is written

pub marked : (r new : Reaching) (s : Specifier) (x : Slot)
    → ((t : Specifier) → value_at new.reached t ≡ cond (bytes_eq t s) (Some x) (value_at r.reached t))
    → keys_at new.reached ≡ keys_at r.reached → new.next ≡ r.next → IsMarked s x r new
marked r new s x at keys next = record {
  written = at;
  keys = keys;
  next = next;
  counted = sym (length-keys new.reached) ∙ ap length keys ∙ length-keys r.reached;
}

pub todo_marked : (s : Specifier) (x : Slot) (old new : Reaching) → IsMarked s x old new → todo_of new ≡ todo_of old
todo_marked s x old new m = ap (λ (n : ℕ). drop n (keys_at new.reached)) m.next ∙ ap (drop old.next) m.keys

-- what an entry leads to is reached, and then its slot is written
pub filled : (rules : Rules) (s : Specifier) (e : Entry) (old between new : Reaching)
    → HasReached (targets rules e) old between → IsMarked s (Done e) between new → new.limit ≡ between.limit
    → IsFilled rules s e old new
filled rules s e old between new r m limit = record {
  between = slots_of between;
  grown = rw (todo_marked s (Done e) between new m) r.grown;
  written = m.written;
  counted = rw (m.counted, todo_marked s (Done e) between new m) r.counted;
  room = record {
    within = omega (arith, r.room.within, m.next, m.counted);
    room = omega (arith, r.room.room, m.counted, limit);
  };
  keys = goes_on_more (keys_at old.reached) (keys_at between.reached) (keys_at new.reached)
      (rw r.all (goes_on_with (keys_at old.reached) (targets rules e)))
      (goes_on_same (keys_at between.reached) (keys_at new.reached) m.keys);
}

-- what an entry leads to is too much, or memory runs out
pub fills_err : (rules : Rules) (s : Specifier) (e : Entry) (old new : Reaching) (why : GrowError)
    → Grows (targets rules e) old new (Err why) → Fills rules s e old new (Err why)
fills_err rules s e old new (TooMany seen) h = h
fills_err rules s e old new OutOfMemory h = tt

-- what came makes it no shorter
pub reached_longer : (come : List Specifier) (a b : Reaching) → HasReached come a b
    → length a.reached ≤ length b.reached
reached_longer come a b r =
    let g : GoesOn (keys_at a.reached) (keys_at b.reached) = rw r.all (goes_on_with (keys_at a.reached) come) in
    omega (arith, ap length g.1, length-append (keys_at a.reached) g.0, length-keys a.reached, length-keys b.reached)

-- and what stands at a number stays there
pub reached_key : (come : List Specifier) (a b : Reaching) (n : ℕ) (s : Specifier) → HasReached come a b
    → slice_get (keys_at a.reached) n ≡ Some s → slice_get (keys_at b.reached) n ≡ Some s
reached_key come a b n s r at =
    key_later (keys_at a.reached) (keys_at b.reached) n s (rw r.all (goes_on_with (keys_at a.reached) come)) at

-- ---- too much

-- too much of what came, where more was to come
pub overfull_wide : (xs ys : List Specifier) (a : Specifier → Option Slot) (limit seen : ℕ)
    → ((t : Specifier) → has xs t ≡ true → has ys t ≡ true) → IsOverfull xs a limit seen → IsOverfull ys a limit seen
overfull_wide xs ys a limit seen wider full = record {
  above = full.above;
  members = full.members;
  counted = full.counted;
  once = full.once;
  each = λ t h. each t (full.each t h);
}
  where
    each : (t : Specifier) → (a t ≡ None → ⊥) ⊎ (has xs t ≡ true) → (a t ≡ None → ⊥) ⊎ (has ys t ≡ true)
    each t (inl h) = inl h
    each t (inr h) = inr (wider t h)

-- reaching stops
pub grows_err : (xs ys zs : List Specifier) (a b c : Reaching) (e : GrowError) → HasReached xs a b → b.limit ≡ a.limit
    → ((t : Specifier) → has (xs ++ ys) t ≡ true → has zs t ≡ true) → Grows ys b c (Err e) → Grows zs a c (Err e)
grows_err xs ys zs a b c (TooMany seen) g same wider full =
    overfull_wide (xs ++ ys) zs (slots_of a) a.limit seen wider
    (overfull_more xs ys (slots_of a) (slots_of b) (todo_of a) (todo_of b) a.limit seen g.grown
    (rw (← same) full))
grows_err xs ys zs a b c OutOfMemory g same wider full = tt

-- what the edges of a source lead to is what those of its module lead to
pub grows_source : (following : Following) (m : JsModule) (importer : Module) (typed : Bool) (ds : List Dependency)
    (a b : Reaching) (r : Result (Unit {0}) GrowError)
    → importer ≡ Js m → typed ≡ is_typed m.media_type → ds ≡ m.dependencies
    → Grows (filter_map (led_to (is_followed following typed)) ds) a b r
    → Grows (filter_map (led_to (is_followed following (has_types importer))) (edges_of importer)) a b r
grows_source following m importer typed ds a b r is types edges g =
    subst (λ (x : Module). Grows (filter_map (led_to (is_followed following (has_types x))) (edges_of x)) a b r)
    (sym is)
    (subst (λ (t : Bool). Grows (filter_map (led_to (is_followed following t)) m.dependencies) a b r) types
    (subst (λ (es : List Dependency). Grows (filter_map (led_to (is_followed following typed)) es) a b r) edges g))

-- ---- the first of a list

-- one more of them
pub texts_more : (urls : List Parts) (i : ℕ) (url : Parts) → i < length urls → url ≡ get_or urls i url
    → texts (take (i + 1) urls) ≡ texts (take i urls) ++ text_of url ∷ []
texts_more urls i url within is = map_more text_of urls i url within ∙ rw (← is) refl

-- what the first have, all have
pub has_texts_take : (urls : List Parts) (n : ℕ) (t : Specifier) → has (texts (take n urls)) t ≡ true
    → has (texts urls) t ≡ true
has_texts_take [] zero t h = h
has_texts_take [] (suc n) t h = h
has_texts_take (u ∷ urls) zero t h = absurd cc
has_texts_take (u ∷ urls) (suc n) t h = by (bytes_eq t (text_of u)) (has_texts_take urls n t) h
  where
    by : (b : Bool) → (has (texts (take n urls)) t ≡ true → has (texts urls) t ≡ true)
        → (b || has (texts (take n urls)) t) ≡ true → (b || has (texts urls) t) ≡ true
    by true rest h = refl
    by false rest h = rest h

module _ {A : Type 0} (f : A → Option Specifier) where
  -- one more of what a list gives
  pub filter_map_suc : (xs : List A) (i : ℕ) (d : A) → i < length xs
      → filter_map f (take (suc i) xs) ≡ filter_map f (take i xs) ++ option_to_list (f (get_or xs i d))
  filter_map_suc [] i d within = absurd (omega arith)
  filter_map_suc (x ∷ xs) zero d within = one (f x)
    where
      one : (o : Option Specifier) → cons_option o [] ≡ option_to_list o
      one None = refl
      one (Some y) = refl
  filter_map_suc (x ∷ xs) (suc i) d within = rw (filter_map_suc xs i d (omega arith)) (more (f x))
    where
      more : (o : Option Specifier) → cons_option o (filter_map f (take i xs) ++ option_to_list (f (get_or xs i d)))
          ≡ cons_option o (filter_map f (take i xs)) ++ option_to_list (f (get_or xs i d))
      more None = refl
      more (Some y) = refl

  pub filter_map_more : (xs : List A) (i : ℕ) (x : A) → i < length xs → x ≡ get_or xs i x
      → filter_map f (take (i + 1) xs) ≡ filter_map f (take i xs) ++ option_to_list (f x)
  filter_map_more xs i x within is = rw add-one (filter_map_suc xs i x within ∙ rw (← is) refl)

  -- what the first give, all give
  pub has_filter_map_take : (xs : List A) (n : ℕ) (t : Specifier) → has (filter_map f (take n xs)) t ≡ true
      → has (filter_map f xs) t ≡ true
  has_filter_map_take [] zero t h = h
  has_filter_map_take [] (suc n) t h = h
  has_filter_map_take (x ∷ xs) zero t h = absurd cc
  has_filter_map_take (x ∷ xs) (suc n) t h = by (f x) (has_filter_map_take xs n t) h
    where
      by : (o : Option Specifier) → (has (filter_map f (take n xs)) t ≡ true → has (filter_map f xs) t ≡ true)
          → has (cons_option o (filter_map f (take n xs))) t ≡ true → has (cons_option o (filter_map f xs)) t ≡ true
      by None rest h = rest h
      by (Some y) rest h = or (bytes_eq t y) rest h
        where
          or : (b : Bool) → (has (filter_map f (take n xs)) t ≡ true → has (filter_map f xs) t ≡ true)
              → (b || has (filter_map f (take n xs)) t) ≡ true → (b || has (filter_map f xs) t) ≡ true
          or true rest h = refl
          or false rest h = rest h
