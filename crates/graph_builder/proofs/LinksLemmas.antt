-- Links of edges and redirects, and the slots that contracts see.
use Rattle.std.proofs.Common.{◌≡◌, ◌<◌, ◌+◌, ℕ, zero, suc, Bool, true, false, cond, List, [], ◌∷◌, ◌++◌, map, length, drop, slice_get, refl, sym, subst, ◌∙◌, ap, arith, Option, Some, None, append-nil, length-append}
use Rattle.std.specs.Prelude.{bytes_eq, slice_set, option_map, option_and_then, position, MatchOption, IsTrue, ◌↔◌}
use Rattle.std.specs.List.{position_from, AllByRecursion, IsDistinct}
use Rattle.std.specs.Cmp.Lexicographic.{same_text, nat_list_eq_equiv}
use Rattle.std.proofs.lemmas.Iterator.Adapters.{position_from-zero}
use Rattle.std.proofs.lemmas.Option.{slice_get-map}
use Rattle.std.proofs.lemmas.List.{same_from_push}
use Rattle.url.specs.Parts.{Parts}
use Rattle.graph_tables.specs.specifier_table.Numbers as numbers
use Rattle.graph_tables.proofs.specifier_table_lemmas.NumbersLemmas.{value_at-with_value}
use Rattle.graph_entry.specs.declared.entry.Dependency.{Dependency}
use Rattle.graph_entry.specs.declared.entry.Entry.{Entry}
use Rattle.graph_entry.specs.declared.entry.Entry.TheVariants as entry
use Rattle.graph_entry.specs.Specifier.{text_of}
use Rattle.graph_entry.specs.Entry.{edge_target}
use Rattle.graph_builder.specs.declared.slot.Slot.{Slot}
use Rattle.graph_builder.specs.declared.slot.Slot.TheVariants as slot
use Rattle.graph_builder.specs.declared.links.Place.{Place}
use Rattle.graph_builder.specs.declared.links.Place.TheVariants as place
use Rattle.graph_builder.specs.declared.links.Links.{Links}
use Rattle.graph_builder.specs.Reach.{Specifier}
use Rattle.graph_builder.specs.ByText.{value_at, keys_at, number_of}
use Rattle.graph_builder.specs.Slots.{all_done}
use Rattle.graph_builder.specs.Links.{ends_of, ends_in, end_at, no_link, IsLink, AreLinks, BeginsWithLinks, IsPlaced, ArePlaced, HaveLinks, IsLinked, slot_of, slots_in}
use Rattle.graph_builder.proofs.NumberLemmas.{slice_get-append, entry_of_number, key_of_number, value_there, keys-push, keys-with_value}

-- ---- links stay links

one_later : (keys more : List Specifier) (x : ℕ) (end : Option Specifier) → IsLink keys x end
    → IsLink (keys ++ more) x end
one_later keys more x None h = tt
one_later keys more x (Some t) h = λ some. slice_get-append keys more x t (h some)

pub links_later : (keys more : List Specifier) (xs : List ℕ) (ends : List (Option Specifier)) → AreLinks keys xs ends
    → AreLinks (keys ++ more) xs ends
links_later keys more [] [] h = tt
links_later keys more [] (t ∷ ts) h = absurd h
links_later keys more (x ∷ xs) [] h = absurd h
links_later keys more (x ∷ xs) (t ∷ ts) h = (one_later keys more x t h.0, links_later keys more xs ts h.1)

begins_later : (keys more : List Specifier) (xs ys : List ℕ) (ends : List (Option Specifier))
    → BeginsWithLinks keys xs ends → BeginsWithLinks (keys ++ more) (xs ++ ys) ends
begins_later keys more [] ys [] h = tt
begins_later keys more [] ys (t ∷ ts) h = absurd h
begins_later keys more (x ∷ xs) ys [] h = tt
begins_later keys more (x ∷ xs) ys (t ∷ ts) h = (one_later keys more x t h.0, begins_later keys more xs ys ts h.1)

drop_later : (keys more : List Specifier) (n : ℕ) (xs ys : List ℕ) (ends : List (Option Specifier))
    → BeginsWithLinks keys (drop n xs) ends → BeginsWithLinks (keys ++ more) (drop n (xs ++ ys)) ends
drop_later keys more zero xs ys ends h = begins_later keys more xs ys ends h
drop_later keys more (suc n) [] ys [] h = nothing (drop (suc n) ys)
  where
    nothing : (zs : List ℕ) → BeginsWithLinks (keys ++ more) zs []
    nothing [] = tt
    nothing (z ∷ zs) = tt
drop_later keys more (suc n) [] ys (t ∷ ts) h = absurd h
drop_later keys more (suc n) (x ∷ xs) ys ends h = drop_later keys more n xs ys ends h

placed_later : (keys more : List Specifier) (xs ys : List ℕ) (p : Place) (e : Entry) → IsPlaced keys xs p e
    → IsPlaced (keys ++ more) (xs ++ ys) p e
placed_later keys more xs ys place.Queued e h = tt
placed_later keys more xs ys place.Asked e h = tt
placed_later keys more xs ys (place.Done start) e h = drop_later keys more start xs ys (ends_of e) h

pub all_placed_later : (keys more : List Specifier) (xs ys : List ℕ) (ps : List Place) (es : List (Parts × Entry))
    → ArePlaced keys xs ps es → ArePlaced (keys ++ more) (xs ++ ys) ps es
all_placed_later keys more xs ys [] [] h = tt
all_placed_later keys more xs ys [] (e ∷ es) h = absurd h
all_placed_later keys more xs ys (p ∷ ps) [] h = absurd h
all_placed_later keys more xs ys (p ∷ ps) (e ∷ es) h =
    (placed_later keys more xs ys p e.1 h.0, all_placed_later keys more xs ys ps es h.1)

-- ---- one more link

-- one more link behind those so far
pub links_push : (keys : List Specifier) (xs : List ℕ) (ends : List (Option Specifier)) (x : ℕ) (end : Option Specifier)
    → AreLinks keys xs ends → IsLink keys x end → AreLinks keys (xs ++ x ∷ []) (ends ++ end ∷ [])
links_push keys [] [] x end h one = (one, tt)
links_push keys [] (t ∷ ts) x end h one = absurd h
links_push keys (y ∷ xs) [] x end h one = absurd h
links_push keys (y ∷ xs) (t ∷ ts) x end h one = (h.0, links_push keys xs ts x end h.1 one)

-- links that are kept begin their list
begins : (keys : List Specifier) (xs : List ℕ) (ends : List (Option Specifier)) → AreLinks keys xs ends
    → BeginsWithLinks keys xs ends
begins keys [] [] h = tt
begins keys [] (t ∷ ts) h = absurd h
begins keys (x ∷ xs) [] h = absurd h
begins keys (x ∷ xs) (t ∷ ts) h = (h.0, begins keys xs ts h.1)

drop_whole : (xs ys : List ℕ) → drop (length xs) (xs ++ ys) ≡ ys
drop_whole [] ys = refl
drop_whole (x ∷ xs) ys = drop_whole xs ys

-- behind those of other entries
pub placed_done : (keys : List Specifier) (xs ys : List ℕ) (start : ℕ) (e : Entry) → start ≡ length xs
    → AreLinks keys ys (ends_of e) → IsPlaced keys (xs ++ ys) (place.Done start) e
placed_done keys xs ys start e is h =
    subst (λ (zs : List ℕ). BeginsWithLinks keys zs (ends_of e))
    (sym (ap (λ (n : ℕ). drop n (xs ++ ys)) is ∙ drop_whole xs ys)) (begins keys ys (ends_of e) h)

-- ---- entries with their links

-- as many places as entries
pub placed_even : (keys : List Specifier) (xs : List ℕ) (ps : List Place) (es : List (Parts × Entry))
    → ArePlaced keys xs ps es → length ps ≡ length es
placed_even keys xs [] [] h = refl
placed_even keys xs [] (e ∷ es) h = absurd h
placed_even keys xs (p ∷ ps) [] h = absurd h
placed_even keys xs (p ∷ ps) (e ∷ es) h = ap suc (placed_even keys xs ps es h.1)

-- one more that waits
pub placed_push : (keys : List Specifier) (xs : List ℕ) (ps : List Place) (es : List (Parts × Entry))
    (e : Parts × Entry)
    → ArePlaced keys xs ps es → ArePlaced keys xs (ps ++ place.Queued ∷ []) (es ++ e ∷ [])
placed_push keys xs [] [] e h = (tt, tt)
placed_push keys xs [] (f ∷ es) e h = absurd h
placed_push keys xs (p ∷ ps) [] e h = absurd h
placed_push keys xs (p ∷ ps) (f ∷ es) e h = (h.0, placed_push keys xs ps es e h.1)

-- one that isn't there
pub placed_mark : (keys : List Specifier) (xs : List ℕ) (ps : List Place) (es : List (Parts × Entry)) (n : ℕ)
    (p : Place)
    → ((e : Entry) → IsPlaced keys xs p e) → ArePlaced keys xs ps es → ArePlaced keys xs (slice_set ps n p) es
placed_mark keys xs [] [] n p any h = tt
placed_mark keys xs [] (e ∷ es) n p any h = absurd h
placed_mark keys xs (q ∷ ps) [] n p any h = absurd h
placed_mark keys xs (q ∷ ps) (e ∷ es) zero p any h = (any e.1, h.1)
placed_mark keys xs (q ∷ ps) (e ∷ es) (suc n) p any h = (h.0, placed_mark keys xs ps es n p any h.1)

-- one that is
pub placed_set : (keys : List Specifier) (xs : List ℕ) (ps : List Place) (es : List (Parts × Entry)) (n : ℕ) (p : Place)
    (new : Entry) → IsPlaced keys xs p new → ArePlaced keys xs ps es
    → ArePlaced keys xs (slice_set ps n p) (numbers.with_value es n new)
placed_set keys xs [] [] n p new here h = tt
placed_set keys xs [] (e ∷ es) n p new here h = absurd h
placed_set keys xs (q ∷ ps) [] n p new here h = absurd h
placed_set keys xs (q ∷ ps) (e ∷ es) zero p new here h = (here, h.1)
placed_set keys xs (q ∷ ps) (e ∷ es) (suc n) p new here h = (h.0, placed_set keys xs ps es n p new here h.1)

-- ---- the slots

abbrev first_slot : List (Parts × Slot) → Option Slot
first_slot [] = None
first_slot (x ∷ xs) = Some x.1

abbrev later_slots : List (Parts × Slot) → List (Parts × Slot)
later_slots [] = []
later_slots (x ∷ xs) = xs

module _ (keys : List Specifier) (xs : List ℕ) where
  pub slots_keys : (ps : List Place) (es : List (Parts × Entry)) → ArePlaced keys xs ps es
      → keys_at (slots_in ps es) ≡ keys_at es
  slots_keys [] [] h = refl
  slots_keys [] (e ∷ es) h = absurd h
  slots_keys (p ∷ ps) [] h = absurd h
  slots_keys (p ∷ ps) (e ∷ es) h = ap (λ (ts : List Specifier). text_of e.0 ∷ ts) (slots_keys ps es h.1)

  pub slots_length : (ps : List Place) (es : List (Parts × Entry)) → ArePlaced keys xs ps es
      → length (slots_in ps es) ≡ length es
  slots_length [] [] h = refl
  slots_length [] (e ∷ es) h = absurd h
  slots_length (p ∷ ps) [] h = absurd h
  slots_length (p ∷ ps) (e ∷ es) h = ap suc (slots_length ps es h.1)

  pub slots_push : (ps : List Place) (es : List (Parts × Entry)) (u : Parts) (e : Entry) → ArePlaced keys xs ps es
      → slots_in (ps ++ place.Queued ∷ []) (es ++ (u, e) ∷ []) ≡ slots_in ps es ++ (u, slot.Queued) ∷ []
  slots_push [] [] u e h = refl
  slots_push [] (f ∷ es) u e h = absurd h
  slots_push (p ∷ ps) [] u e h = absurd h
  slots_push (p ∷ ps) (f ∷ es) u e h =
      ap (λ (ss : List (Parts × Slot)). (f.0, slot_of p f.1) ∷ ss) (slots_push ps es u e h.1)

  -- one that isn't there is written
  pub slots_mark : (ps : List Place) (es : List (Parts × Entry)) (n : ℕ) (p : Place) (x : Slot)
      → ((e : Entry) → slot_of p e ≡ x) → ArePlaced keys xs ps es
      → slots_in (slice_set ps n p) es ≡ numbers.with_value (slots_in ps es) n x
  slots_mark [] [] n p x is h = refl
  slots_mark [] (e ∷ es) n p x is h = absurd h
  slots_mark (q ∷ ps) [] n p x is h = absurd h
  slots_mark (q ∷ ps) (e ∷ es) zero p x is h = ap (λ (y : Slot). (e.0, y) ∷ slots_in ps es) (is e.1)
  slots_mark (q ∷ ps) (e ∷ es) (suc n) p x is h =
      ap (λ (ss : List (Parts × Slot)). (e.0, slot_of q e.1) ∷ ss) (slots_mark ps es n p x is h.1)

  -- one that is there is written
  pub slots_set : (ps : List Place) (es : List (Parts × Entry)) (n : ℕ) (p : Place) (new : Entry)
      → ArePlaced keys xs ps es
      → slots_in (slice_set ps n p) (numbers.with_value es n new)
      ≡ numbers.with_value (slots_in ps es) n (slot_of p new)
  slots_set [] [] n p new h = refl
  slots_set [] (e ∷ es) n p new h = absurd h
  slots_set (q ∷ ps) [] n p new h = absurd h
  slots_set (q ∷ ps) (e ∷ es) zero p new h = refl
  slots_set (q ∷ ps) (e ∷ es) (suc n) p new h =
      ap (λ (ss : List (Parts × Slot)). (e.0, slot_of q e.1) ∷ ss) (slots_set ps es n p new h.1)

  pub slots_key : (ps : List Place) (es : List (Parts × Entry)) (n : ℕ) → ArePlaced keys xs ps es
      → option_map (λ (e : Parts × Entry). e.0) (slice_get es n)
      ≡ option_map (λ (e : Parts × Slot). e.0) (slice_get (slots_in ps es) n)
  slots_key [] [] n h = refl
  slots_key [] (e ∷ es) n h = absurd h
  slots_key (p ∷ ps) [] n h = absurd h
  slots_key (p ∷ ps) (e ∷ es) zero h = refl
  slots_key (p ∷ ps) (e ∷ es) (suc n) h = slots_key ps es n h.1

  -- a slot by its place
  pub slots_asked : (ps : List Place) (es : List (Parts × Entry)) (n : ℕ) → ArePlaced keys xs ps es
      → (slice_get ps n ≡ Some place.Asked)
      ↔ (option_map (λ (e : Parts × Slot). e.1) (slice_get (slots_in ps es) n) ≡ Some slot.Asked)
  slots_asked [] [] n h = ((λ is. absurd cc), (λ is. absurd cc))
  slots_asked [] (e ∷ es) n h = absurd h
  slots_asked (p ∷ ps) [] n h = absurd h
  slots_asked (p ∷ ps) (e ∷ es) (suc n) h = slots_asked ps es n h.1
  slots_asked (place.Queued ∷ ps) (e ∷ es) zero h = ((λ is. absurd cc), (λ is. absurd cc))
  slots_asked (place.Asked ∷ ps) (e ∷ es) zero h = ((λ is. refl), (λ is. refl))
  slots_asked (place.Done start ∷ ps) (e ∷ es) zero h = ((λ is. absurd cc), (λ is. absurd cc))

  -- where all are there, the slots are the entries
  pub slots_done : (ps : List Place) (es fs : List (Parts × Entry)) → ArePlaced keys xs ps es
      → slots_in ps es ≡ all_done fs → slots_in ps es ≡ all_done es
  slots_done [] [] fs h is = refl
  slots_done [] (e ∷ es) fs h is = absurd h
  slots_done (p ∷ ps) [] fs h is = absurd h
  slots_done (place.Queued ∷ ps) (e ∷ es) [] h is = absurd cc
  slots_done (place.Queued ∷ ps) (e ∷ es) (f ∷ fs) h is =
      let one : Some slot.Queued ≡ Some (slot.Done f.1) = ap first_slot is in absurd cc
  slots_done (place.Asked ∷ ps) (e ∷ es) [] h is = absurd cc
  slots_done (place.Asked ∷ ps) (e ∷ es) (f ∷ fs) h is =
      let one : Some slot.Asked ≡ Some (slot.Done f.1) = ap first_slot is in absurd cc
  slots_done (place.Done start ∷ ps) (e ∷ es) [] h is = absurd cc
  slots_done (place.Done start ∷ ps) (e ∷ es) (f ∷ fs) h is =
      let rest : slots_in ps es ≡ all_done fs = ap later_slots is in
      ap (λ (ss : List (Parts × Slot)). (e.0, slot.Done e.1) ∷ ss) (slots_done ps es fs h.1 rest)

-- ---- what a link says

-- a list's link in a place
link_there : (keys : List Specifier) (xs : List ℕ) (ends : List (Option Specifier)) (j x : ℕ) (t : Specifier)
    → BeginsWithLinks keys xs ends → slice_get xs j ≡ Some x → slice_get ends j ≡ Some (Some t) → x < no_link
    → slice_get keys x ≡ Some t
link_there keys [] [] j x t h at end some = absurd cc
link_there keys [] (s ∷ ts) j x t h at end some = absurd h
link_there keys (y ∷ xs) [] j x t h at end some = absurd cc
link_there keys (y ∷ xs) (None ∷ ts) zero x t h at end some = absurd cc
link_there keys (y ∷ xs) (Some s ∷ ts) zero x t h at end some =
    let one : y ≡ x = cc in let same : s ≡ t = cc in
    ap (slice_get keys) (sym one) ∙ h.0 (rw one some) ∙ ap Some same
link_there keys (y ∷ xs) (s ∷ ts) (suc j) x t h at end some = link_there keys xs ts j x t h.1 at end some

drop_there : {A : Type 0} (xs : List A) (n j : ℕ) → slice_get (drop n xs) j ≡ slice_get xs (n + j)
drop_there xs zero j = let same : j ≡ 0 + j = omega arith in ap (slice_get xs) same
drop_there [] (suc n) j = refl
drop_there (x ∷ xs) (suc n) j =
    let same : suc (n + j) ≡ suc n + j = omega arith in drop_there xs n j ∙ ap (slice_get (x ∷ xs)) same

placed_there : (keys : List Specifier) (xs : List ℕ) (ps : List Place) (es : List (Parts × Entry)) (n start : ℕ)
    (ends : List (Option Specifier))
    → ArePlaced keys xs ps es → slice_get ps n ≡ Some (place.Done start) → ends_in es n ≡ Some ends
    → BeginsWithLinks keys (drop start xs) ends
placed_there keys xs [] [] n start ends h at is = absurd cc
placed_there keys xs [] (e ∷ es) n start ends h at is = absurd h
placed_there keys xs (p ∷ ps) [] n start ends h at is = absurd h
placed_there keys xs (p ∷ ps) (e ∷ es) (suc n) start ends h at is = placed_there keys xs ps es n start ends h.1 at is
placed_there keys xs (p ∷ ps) (e ∷ es) zero start ends h at is =
    let here : p ≡ place.Done start = cc in let same : ends_of e.1 ≡ ends = cc in
    subst (λ (ts : List (Option Specifier)). BeginsWithLinks keys (drop start xs) ts) same
    (subst (λ (q : Place). IsPlaced keys xs q e.1) here h.0)

-- an edge's end is one of its entry's ends
end_among : (o : Option (List (Option Specifier))) (j : ℕ) (t : Specifier)
    → option_and_then (λ ends. option_and_then (λ end. end) (slice_get ends j)) o ≡ Some t
    → (ends : List (Option Specifier)) × (o ≡ Some ends) × (slice_get ends j ≡ Some (Some t))
end_among None j t h = absurd cc
end_among (Some ends) j t h = (ends, refl, by (slice_get ends j) h)
  where
    by : (o : Option (Option Specifier)) → option_and_then (λ end. end) o ≡ Some t → o ≡ Some (Some t)
    by None h = absurd cc
    by (Some end) h = ap Some h

-- the number at an edge is that of its end
pub link_true : (entries : List (Parts × Entry)) (links : Links) (n j m : ℕ) (t : Specifier) → HaveLinks entries links
    → IsLinked links n j m → end_at entries n j ≡ Some t → slice_get (keys_at entries) m ≡ Some t
link_true entries links n j m t h l end =
    let r = end_among (ends_in entries n) j t end in
    link_there (keys_at entries) (drop l.start links.numbers.items) r.0 j m t
    (placed_there (keys_at entries) links.numbers.items links.places entries n l.start r.0 h l.done r.1)
    (drop_there links.numbers.items l.start j ∙ l.link) r.2 l.some

-- ---- a number by what stands there

bytes_eq_same : (s : Specifier) → bytes_eq s s ≡ true
bytes_eq_same s = nat_list_eq_equiv.refl s

apart : (k : Specifier) (ks : List Specifier) (m : ℕ) (t : Specifier) → AllByRecursion (λ y. bytes_eq k y ≡ false) ks
    → slice_get ks m ≡ Some t → bytes_eq t k ≡ false
apart k [] m t h at = absurd cc
apart k (x ∷ ks) zero t h at = let same : x ≡ t = cc in by (bytes_eq t k) refl
  where
    by : (b : Bool) → bytes_eq t k ≡ b → b ≡ false
    by false is = refl
    by true is =
        let one : t ≡ k = same_text t k (sym is) in let two : x ≡ t = cc in
        let equal : bytes_eq k x ≡ true = rw (two, one) (bytes_eq_same k) in
        let other : bytes_eq k x ≡ false = h.0 in cc
apart k (x ∷ ks) (suc m) t h at = apart k ks m t h.1 at

number_from : (keys : List Specifier) (i m : ℕ) (t : Specifier) → IsDistinct bytes_eq keys → slice_get keys m ≡ Some t
    → position_from (bytes_eq t) i keys ≡ Some (i + m)
unfolding IsDistinct
number_from [] i m t once at = absurd cc
number_from (k ∷ keys) i zero t once at =
    let same : k ≡ t = cc in
    let here : i ≡ i + 0 = omega arith in rw (same, bytes_eq_same t) (ap Some here)
number_from (k ∷ keys) i (suc m) t once at =
    let more : i + 1 + m ≡ i + suc m = omega arith in
    rw (apart k keys m t once.0 at) (number_from keys (i + 1) m t once.1 at ∙ ap Some more)

pub number_true : (entries : List (Parts × Entry)) (m : ℕ) (t : Specifier) → IsDistinct bytes_eq (keys_at entries)
    → slice_get (keys_at entries) m ≡ Some t → number_of entries t ≡ Some m
number_true entries m t once at =
    let here : 0 + m ≡ m = omega arith in
    position_from-zero (bytes_eq t) (keys_at entries) ∙ number_from (keys_at entries) 0 m t once at ∙ ap Some here

-- ---- ends by their places

pub ends_here : (entries : List (Parts × Entry)) (values : List Entry) (n : ℕ) (first : Entry)
    → values ≡ map (λ (e : Parts × Entry). e.1) entries → slice_get values n ≡ Some first
    → ends_in entries n ≡ Some (ends_of first)
ends_here entries values n first are at =
    by entries n (ap (λ (vs : List Entry). slice_get vs n) (sym are) ∙ at)
  where
    by : (es : List (Parts × Entry)) (n : ℕ) → slice_get (map (λ (e : Parts × Entry). e.1) es) n ≡ Some first
        → ends_in es n ≡ Some (ends_of first)
    by [] n h = absurd cc
    by (e ∷ es) zero h = let same : e.1 ≡ first = cc in ap (λ (x : Entry). Some (ends_of x)) same
    by (e ∷ es) (suc n) h = by es n h

pub end_here : (entries : List (Parts × Entry)) (edges : List Dependency) (n j : ℕ) (edge : Dependency)
    → ends_in entries n ≡ Some (map edge_target edges) → slice_get edges j ≡ Some edge
    → end_at entries n j ≡ edge_target edge
end_here entries edges n j edge are at =
    ap (option_and_then (λ (ends : List (Option Specifier)). option_and_then (λ end. end) (slice_get ends j))) are
    ∙ ap (option_and_then (λ (end : Option Specifier). end))
    (slice_get-map edge_target edges j ∙ ap (option_map edge_target) at)

-- a redirect has one end
pub redirect_end : (entries : List (Parts × Entry)) (s : Specifier) (n : ℕ) (target : Parts)
    → Some n ≡ number_of entries s
    → value_at entries s ≡ Some (entry.Redirect target) → end_at entries n 0 ≡ Some (text_of target)
redirect_end entries s n target there is =
    let x = entry_of_number entries n s (key_of_number entries s n (sym there)) in
    let value : Some x.0.1 ≡ Some (entry.Redirect target) =
    sym (value_there entries s n (sym there) ∙ ap (option_map (λ (e : Parts × Entry). e.1)) x.1) ∙ is in
    let same : x.0.1 ≡ entry.Redirect target = cc in
    ap (λ (o : Option (Parts × Entry)). option_and_then (λ (ends : List (Option Specifier)).
    option_and_then (λ end. end) (slice_get ends 0)) (option_map (λ (e : Parts × Entry). ends_of e.1) o)) x.1
    ∙ ap (λ (e : Entry). option_and_then (λ end. end) (slice_get (ends_of e) 0)) same

-- ---- what the calls do

-- one more that waits
pub added : (xs : List ℕ) (ps qs : List Place) (es fs : List (Parts × Entry)) (u : Parts)
    → qs ≡ ps ++ place.Queued ∷ [] → fs ≡ es ++ (u, entry.External) ∷ []
    → ArePlaced (keys_at es) xs ps es → ArePlaced (keys_at fs) xs qs fs
added xs ps qs es fs u more longer h =
    rw (more, longer, keys-push es u entry.External (text_of u) refl)
    (placed_push (keys_at es ++ text_of u ∷ []) xs ps es (u, entry.External)
    (subst (λ (ys : List ℕ). ArePlaced (keys_at es ++ text_of u ∷ []) ys ps es) (append-nil xs)
    (all_placed_later (keys_at es) (text_of u ∷ []) xs [] ps es h)))

-- the last place is taken back
pub popped_place : (ps qs rs : List Place) (o : Option Place) → qs ≡ ps ++ place.Queued ∷ []
    → MatchOption o ((qs ≡ []) × (rs ≡ [])) (λ last. qs ≡ rs ++ last ∷ []) → rs ≡ ps
popped_place ps qs rs None is h =
    absurd (omega (arith, ap length is, ap length h.0, length-append ps (place.Queued ∷ [])))
popped_place ps qs rs (Some last) is h = (same_from_push rs ps last place.Queued (sym h ∙ is)).0

-- a slot waits for its answer exactly if its place says so
pub asked_here : (keys : List Specifier) (xs : List ℕ) (ps : List Place) (es : List (Parts × Entry))
    (slots : List (Parts × Slot)) (n : ℕ) (p : Place) (b : Bool) → ArePlaced keys xs ps es → slots_in ps es ≡ slots
    → Some p ≡ slice_get ps n → IsTrue b ↔ (p ≡ place.Asked)
    → IsTrue b ↔ (option_map (λ (e : Parts × Slot). e.1) (slice_get slots n) ≡ Some slot.Asked)
asked_here keys xs ps es slots n p b h is at iff =
    let slots_too = slots_asked keys xs ps es n h in
    let by : option_map (λ (e : Parts × Slot). e.1) (slice_get (slots_in ps es) n)
    ≡ option_map (λ (e : Parts × Slot). e.1) (slice_get slots n) =
    ap (λ (ss : List (Parts × Slot)). option_map (λ (e : Parts × Slot). e.1) (slice_get ss n)) is in (
      λ yes. sym by ∙ slots_too.0 (sym at ∙ ap Some (iff.0 yes)),
      λ asked. iff.1 (let one : Some p ≡ Some place.Asked = at ∙ slots_too.1 (by ∙ asked) in cc),
    )

pub asked_nowhere : (keys : List Specifier) (xs : List ℕ) (ps : List Place) (es : List (Parts × Entry))
    (slots : List (Parts × Slot)) (n : ℕ) → ArePlaced keys xs ps es → slots_in ps es ≡ slots → None ≡ slice_get ps n
    → IsTrue false ↔ (option_map (λ (e : Parts × Slot). e.1) (slice_get slots n) ≡ Some slot.Asked)
asked_nowhere keys xs ps es slots n h is at =
    let slots_too = slots_asked keys xs ps es n h in
    let by : option_map (λ (e : Parts × Slot). e.1) (slice_get (slots_in ps es) n)
    ≡ option_map (λ (e : Parts × Slot). e.1) (slice_get slots n) =
    ap (λ (ss : List (Parts × Slot)). option_map (λ (e : Parts × Slot). e.1) (slice_get ss n)) is in (
      λ yes. absurd cc,
      λ asked. let one : None ≡ Some place.Asked = at ∙ slots_too.1 (by ∙ asked) in absurd cc,
    )

-- a number of a slot is one of a place
pub within_places : (keys : List Specifier) (xs : List ℕ) (ps : List Place) (es : List (Parts × Entry))
    (slots : List (Parts × Slot)) (n : ℕ) → ArePlaced keys xs ps es → slots_in ps es ≡ slots → n < length slots
    → n < length ps
within_places keys xs ps es slots n h is within =
    omega (arith, within, ap length is, slots_length keys xs ps es h, placed_even keys xs ps es h)

pub within_entries : (keys : List Specifier) (xs : List ℕ) (ps : List Place) (es : List (Parts × Entry))
    (slots : List (Parts × Slot)) (n : ℕ) → ArePlaced keys xs ps es → slots_in ps es ≡ slots → n < length slots
    → n < length es
within_entries keys xs ps es slots n h is within =
    omega (arith, within, ap length is, slots_length keys xs ps es h)

-- a slot is written by its number
pub written_at : (keys : List Specifier) (xs : List ℕ) (ps : List Place) (es : List (Parts × Entry))
    (old new : List (Parts × Slot)) (n : ℕ) (x : Slot) → ArePlaced keys xs ps es → slots_in ps es ≡ old
    → IsDistinct bytes_eq (keys_at es) → new ≡ numbers.with_value (slots_in ps es) n x
    → (s t : Specifier) → slice_get (keys_at old) n ≡ Some s
    → value_at new t ≡ cond (bytes_eq t s) (Some x) (value_at old t)
unfolding text_of
written_at keys xs ps es old new n x h is once written s t at =
    ap (λ (ss : List (Parts × Slot)). value_at ss t) (written ∙ ap (λ ss. numbers.with_value ss n x) is)
    ∙ value_at-with_value old n x
    (subst (IsDistinct bytes_eq) (sym (slots_keys keys xs ps es h) ∙ ap keys_at is) once) s t at

pub written_keys : (ps : List Place) (es : List (Parts × Entry)) (old new : List (Parts × Slot)) (n : ℕ) (x : Slot)
    → slots_in ps es ≡ old → new ≡ numbers.with_value (slots_in ps es) n x → keys_at new ≡ keys_at old
written_keys ps es old new n x is written =
    ap keys_at written ∙ keys-with_value (slots_in ps es) n x ∙ ap keys_at is

-- an entry is there, with its links behind those of the others
pub done_placed : (xs ys : List ℕ) (ps : List Place) (es fs : List (Parts × Entry)) (n start : ℕ) (e : Entry)
    (slots : List (Parts × Slot))
    → slots_in ps es ≡ slots → start ≡ length xs → fs ≡ numbers.with_value es n e → ArePlaced (keys_at es) xs ps es
    → AreLinks (keys_at slots) ys (ends_of e) → ArePlaced (keys_at fs) (xs ++ ys) (slice_set ps n (place.Done start)) fs
done_placed xs ys ps es fs n start e slots is at written h links =
    rw (written, keys-with_value es n e)
    (placed_set (keys_at es) (xs ++ ys) ps es n (place.Done start) e
    (placed_done (keys_at es) xs ys start e at
    (subst (λ (ks : List Specifier). AreLinks ks ys (ends_of e))
    (sym (sym (slots_keys (keys_at es) xs ps es h) ∙ ap keys_at is)) links))
    (subst (λ (ks : List Specifier). ArePlaced ks (xs ++ ys) ps es) (append-nil (keys_at es))
    (all_placed_later (keys_at es) [] xs ys ps es h)))

-- more links of no entry
pub placed_more : (es : List (Parts × Entry)) (xs ys zs : List ℕ) (ps : List Place) → zs ≡ xs ++ ys
    → ArePlaced (keys_at es) xs ps es → ArePlaced (keys_at es) zs ps es
placed_more es xs ys zs ps is h =
    rw is (subst (λ (ks : List Specifier). ArePlaced ks (xs ++ ys) ps es) (append-nil (keys_at es))
    (all_placed_later (keys_at es) [] xs ys ps es h))
