use Rattle.std.proofs.Common.{◌≡◌, ◌≢◌, ◌⊎◌, inl, inr, ◌<◌, ◌+◌, ◌∙◌, ◌++◌, ◌∷◌, [], ap, sym, subst, refl, arith, ℕ, List, Bool, true, false, length, set, length-set}
use Rattle.std.specs.Prelude.{◌||◌, ◌&&◌, ◌==◌, slice_index}
use Rattle.std.proofs.lemmas.Bool.Decides.{Decides-eqb}
use Rattle.topological_order.specs.Order.{Links, links_of, has}
use Rattle.strong_components.specs.Condensed.{IsJoin}
use Rattle.strong_components.proofs.BasicLemmas.{same, by_left, by_right, has_at}
use Rattle.strong_components.proofs.MemberLemmas.{put_has, last_or}
use Rattle.strong_components.proofs.condense.add_targets.Invariants.{AreAdded}
use Rattle.strong_components.proofs.condense.add_targets.Goals as goal
use Rattle.strong_components.proofs.condense.add_targets.Goals.{then-to-from+in_ok-add, else-to-from}

-- the component of one target more
added_more : (old now : Links) (least : List ℕ) (from : ℕ) (targets : List ℕ) (n : ℕ)
    → AreAdded old now least from targets n → n < length targets → from < length now
    → slice_index least (slice_index targets n) ≢ from
    → AreAdded old
    (set now from (links_of now from ++ slice_index least (slice_index targets n) ∷ [])) least from targets (n + 1)
added_more old now least from targets n a l within other = record {
  len = length-set now from (links_of now from ++ to ∷ []) ∙ a.len;
  kept = λ u w h. kept u w (a.kept u w h);
  added = λ k below k_l diff. added k k_l diff (last_or k n (omega (arith, below)));
  sound = λ u w h. sound u w (u == from) refl (w == to) refl (sym (put_has now from to u w within) ∙ h);
}
  where
    to : ℕ
    to = slice_index least (slice_index targets n)

    kept : (u w : ℕ) → has (links_of now u) w ≡ true
        → has (links_of (set now from (links_of now from ++ to ∷ [])) u) w ≡ true
    kept u w h = put_has now from to u w within ∙ by_right (u == from && w == to) (has (links_of now u) w) h

    here : has (links_of (set now from (links_of now from ++ to ∷ [])) from) to ≡ true
    here =
        put_has now from to from to within
        ∙ by_left (from == from && to == to) (has (links_of now from) to)
        (both (from == from) (to == to) ((Decides-eqb from from).1 refl) ((Decides-eqb to to).1 refl))
      where
        both : (x y : Bool) → x ≡ true → y ≡ true → (x && y) ≡ true
        both x y h k = rw (h, k) refl

    added : (k : ℕ) → k < length targets → slice_index least (slice_index targets k) ≢ from → (k ≡ n) ⊎ (k < n)
        → has (links_of (set now from (links_of now from ++ to ∷ [])) from) (slice_index least (slice_index targets k))
        ≡ true
    added k k_l diff (inl is) = rw is here
    added k k_l diff (inr below) = kept from (slice_index least (slice_index targets k)) (a.added k below k_l diff)

    sound : (u w : ℕ) (x : Bool) → (u == from) ≡ x → (y : Bool) → (w == to) ≡ y
        → ((x && y) || has (links_of now u) w) ≡ true
        → (has (links_of old u) w ≡ true) ⊎ IsJoin least from targets u w
    sound u w true is true eq h = inr (record {
      from_is = same u from is;
      other = subst (λ (z : ℕ). z ≢ from) (sym (same w to eq)) other;
      target = slice_index targets n;
      among = has_at targets n l;
      to_is = sym (same w to eq);
    })
    sound u w true is false eq h = a.sound u w h
    sound u w false is y eq h = a.sound u w h

-- a target in the same component
added_less : (old now : Links) (least : List ℕ) (from : ℕ) (targets : List ℕ) (n : ℕ)
    → AreAdded old now least from targets n → slice_index least (slice_index targets n) ≡ from
    → AreAdded old now least from targets (n + 1)
added_less old now least from targets n a is = record {
  len = a.len;
  kept = a.kept;
  added = λ k below k_l diff. added k k_l diff (last_or k n (omega (arith, below)));
  sound = a.sound;
}
  where
    added : (k : ℕ) → k < length targets → slice_index least (slice_index targets k) ≢ from → (k ≡ n) ⊎ (k < n)
        → has (links_of now from) (slice_index least (slice_index targets k)) ≡ true
    added k k_l diff (inl eq) = absurd (diff (ap (λ x. slice_index least (slice_index targets x)) eq ∙ is))
    added k k_l diff (inr below) = a.added k below k_l diff

pub loop-target-preserved : goal.loop-target-preserved
loop-target-preserved c =
    elim c.if-to-from.branch [
      | then-to-from+in_ok-add w ↦
          rw (w.joined-is, w.in_ok-add.ensures.put)
          (added_more c.args.joined.now.items c.loop-target.joined.items c.args.least.now c.args.from c.args.targets.now
          c.loop-target.target-index c.loop-target.invariant c.loop-target-test.true
          (rw c.loop-target.invariant.len c.requires.from) w.if-to-from.true)
      | else-to-from w ↦
          rw w.joined-is
          (added_less c.args.joined.now.items c.loop-target.joined.items c.args.least.now c.args.from c.args.targets.now
          c.loop-target.target-index c.loop-target.invariant w.if-to-from.false)
    ]
