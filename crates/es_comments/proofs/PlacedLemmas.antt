-- Comments that were put where they stand, one by one.
use Rattle.std.proofs.Common.{◌≡◌, ℕ, ◌+◌, ◌<◌, Bool, true, false, cond, eqb, List, [], ◌∷◌, ◌++◌, take, length, get_or, refl, sym, ap, ◌∙◌, subst, Some, unwrap_or, Vec}
use Rattle.std.specs.List.{filter}
use Rattle.std.specs.BTreeMap.{BTreeMap}
use Rattle.std.specs.List.Sorted.{IsStrictlySortedBy}
use Rattle.std.proofs.lemmas.List.Elements.{filter_more}
use Rattle.es_token.specs.declared.token.Token.{Token}
use Rattle.es_token.specs.declared.token.Comment.{Comment}
use Rattle.es_comments.specs.declared.maps.SingleThreadedComments.{SingleThreadedComments}
use Rattle.es_comments.specs.declared.place.Stand.{Stand}
use Rattle.es_comments.specs.declared.place.Stand.TheVariants.{Leading, Trailing}
use Rattle.es_comments.specs.Placed.{placed_in, places_of, comments_at, Ascend}
use Rattle.es_comments.specs.Standing.{some_of, stand_at, leads_at, trails_at, leading_at, trailing_at, ArePlaced}
use Rattle.es_comments.specs.Steps.{in_map, Adds, Puts}
use Rattle.es_comments.proofs.MapLemmas.{at_in_map, ascends}

some_or : (cs : List Comment) → unwrap_or (some_of cs) [] ≡ cs
some_or [] = refl
some_or (c ∷ cs) = refl

some_push : (cs : List Comment) (c : Comment) → Some (cs ++ c ∷ []) ≡ some_of (cs ++ c ∷ [])
some_push [] c = refl
some_push (d ∷ cs) c = refl

append_none : (cs : List Comment) → cs ++ [] ≡ cs
append_none [] = refl
append_none (c ∷ cs) = ap (λ (t : List Comment). c ∷ t) (append_none cs)

module _ {A : Type 0} (m n : BTreeMap ℕ (Vec Comment A)) where
  -- a place with one comment more, or with none
  added : (place q : ℕ) (c : Comment) (cs : List Comment) → Adds m n place c
      → comments_at (places_of m) q ≡ some_of cs
      → comments_at (places_of n) q ≡ some_of (cs ++ cond (eqb q place) (c ∷ []) [])
  added place q c cs a h = at_in_map n q ∙ (a.at_each q ∙ by_cases (eqb q place))
    where
      old : in_map m q ≡ some_of cs
      old = sym (at_in_map m q) ∙ h

      by_cases : (b : Bool)
          → cond b (Some (unwrap_or (in_map m q) [] ++ c ∷ [])) (in_map m q) ≡ some_of (cs ++ cond b (c ∷ []) [])
      by_cases true = rw old (rw (some_or cs) (some_push cs c))
      by_cases false = rw (append_none cs) old

  kept : (q : ℕ) (cs : List Comment) → n ≡ m → comments_at (places_of m) q ≡ some_of cs
      → comments_at (places_of n) q ≡ some_of (cs ++ [])
  kept q cs e h = rw (append_none cs) (rw e h)

-- no comments yet
pub placed_none : (x : List ℕ) (ts : List Token) (cs : List Comment) (p : SingleThreadedComments)
    → places_of p.leading ≡ [] → places_of p.trailing ≡ [] → ArePlaced x ts (take 0 cs) (placed_in p)
unfolding IsStrictlySortedBy
placed_none x ts cs p l t = record {
  leading = λ q. rw l refl;
  trailing = λ q. rw t refl;
  leading_ascend = subst Ascend (sym l) tt;
  trailing_ascend = subst Ascend (sym t) tt;
}

module _ (x : List ℕ) (ts : List Token) (cs : List Comment) (i : ℕ) (c : Comment) (l : i < length cs)
    (is : c ≡ get_or cs i c) where
  -- a filter, with one comment more
  filtered : (test : Comment → Bool) (b : Bool) → test c ≡ b
      → filter test (take (i + 1) cs) ≡ filter test (take i cs) ++ cond b (c ∷ []) []
  filtered test b e =
      filter_more test cs i c l
      ∙ ap (λ (d : Comment). filter test (take i cs) ++ cond (test d) (d ∷ []) []) (sym is)
      ∙ ap (λ (t : Bool). filter test (take i cs) ++ cond t (c ∷ []) []) e

  -- one comment more was put where it stands
  pub placed_more : (old new : SingleThreadedComments) (stand : Stand) → stand ≡ stand_at x ts c.range.start
      → Puts old new stand c → ArePlaced x ts (take i cs) (placed_in old)
      → ArePlaced x ts (take (i + 1) cs) (placed_in new)
  placed_more old new (Leading place) e p s = record {
    leading = λ q.
        rw (filtered (λ d. leads_at q (stand_at x ts d.range.start)) (eqb q place) (ap (leads_at q) (sym e)))
        (added old.leading new.leading place q c (leading_at x ts (take i cs) q) p.0 (s.leading q));
    trailing = λ q.
        rw (filtered (λ d. trails_at q (stand_at x ts d.range.start)) false (ap (trails_at q) (sym e)))
        (kept old.trailing new.trailing q (trailing_at x ts (take i cs) q) p.1 (s.trailing q));
    leading_ascend = ascends new.leading p.0.ordered;
    trailing_ascend = subst (λ m. Ascend (places_of m)) (sym p.1) s.trailing_ascend;
  }
  placed_more old new (Trailing place) e p s = record {
    leading = λ q.
        rw (filtered (λ d. leads_at q (stand_at x ts d.range.start)) false (ap (leads_at q) (sym e)))
        (kept old.leading new.leading q (leading_at x ts (take i cs) q) p.1 (s.leading q));
    trailing = λ q.
        rw (filtered (λ d. trails_at q (stand_at x ts d.range.start)) (eqb q place) (ap (trails_at q) (sym e)))
        (added old.trailing new.trailing place q c (trailing_at x ts (take i cs) q) p.0 (s.trailing q));
    leading_ascend = subst (λ m. Ascend (places_of m)) (sym p.1) s.leading_ascend;
    trailing_ascend = ascends new.trailing p.0.ordered;
  }
