use Rattle.std.proofs.Common.{zero, suc, ◌≡◌, ◌<◌, ◌+◌, ◌∙◌, ◌++◌, ◌∷◌, [], ap, sym, refl, arith, ℕ, List, Bool, true, false, length, set, take, add-one, length-set}
use Rattle.std.specs.Prelude.{◌||◌, ◌&&◌, ◌==◌, slice_index}
use Rattle.topological_order.specs.Order.{Links, links_of, has}
use Rattle.topological_order.proofs.OrderLemmas.{all_at}
use Rattle.strong_components.proofs.MemberLemmas.{put_has}
use Rattle.strong_components.proofs.reverse.add_links.Invariants.{ArePut}
use Rattle.strong_components.proofs.reverse.add_links.Goals as goal

take_suc : (xs : List ℕ) (n u : ℕ) → n < length xs
    → has (take (suc n) xs) u ≡ (has (take n xs) u || u == slice_index xs n)
take_suc [] n u l = absurd (omega arith)
take_suc (x ∷ xs) zero u l = or_none (u == x)
  where
    or_none : (b : Bool) → (b || false) ≡ b
    or_none true = refl
    or_none false = refl
take_suc (x ∷ xs) (suc n) u l =
    ap (λ b. u == x || b) (take_suc xs n u (omega arith))
    ∙ assoc (u == x) (has (take n xs) u) (u == slice_index xs n)
  where
    assoc : (a b c : Bool) → (a || (b || c)) ≡ ((a || b) || c)
    assoc true b c = refl
    assoc false b c = refl

-- one target more
put_more : (old now : Links) (targets : List ℕ) (node n : ℕ) → ArePut old now targets node n → n < length targets
    → slice_index targets n < length now
    → ArePut old (set now (slice_index targets n) (links_of now (slice_index targets n) ++ node ∷ [])) targets node
    (n + 1)
put_more old now targets node n p l within = record {
  len = length-set now t (links_of now t ++ node ∷ []) ∙ p.len;
  put = λ u w.
      put_has now t node u w within
      ∙ ap (λ b. (u == t && w == node) || b) (p.put u w)
      ∙ moved (u == t) (w == node) (has (take n targets) u) (has (links_of old u) w)
      ∙ ap (λ b. (w == node && b) || has (links_of old u) w)
      (sym (ap (λ k. has (take k targets) u) (add-one n) ∙ take_suc targets n u l));
}
  where
    t : ℕ
    t = slice_index targets n

    moved : (a b x o : Bool) → ((a && b) || ((b && x) || o)) ≡ ((b && (x || a)) || o)
    moved true true true o = refl
    moved true true false o = refl
    moved true false x o = refl
    moved false true true o = refl
    moved false true false o = refl
    moved false false x o = refl

pub loop-target-preserved : goal.loop-target-preserved
loop-target-preserved c =
    rw c.in_ok-add.ensures.put
    (put_more c.args.back.now.items c.loop-target.back.items c.args.targets.now c.args.node c.loop-target.target-index
    c.loop-target.invariant c.loop-target-test.true
    (rw c.loop-target.invariant.len
    (all_at (λ t. t < length c.args.back.now.items) c.args.targets.now c.loop-target.target-index c.requires
    c.loop-target-test.true)))
