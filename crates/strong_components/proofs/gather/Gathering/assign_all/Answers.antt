use Rattle.std.proofs.Common.{zero, suc, ◌≡◌, ◌≤◌, ◌<◌, ◌+◌, ◌∙◌, ◌++◌, ◌∷◌, [], ap, sym, subst, refl, arith, ℕ, List, Bool, true, false, length, set, drop, add-one, length-set, length-append}
use Rattle.std.specs.Prelude.{◌||◌, ◌==◌, slice_index, slice_index_or}
use Rattle.topological_order.specs.Order.{Links, has}
use Rattle.strong_components.specs.Gather.{IsSpread}
use Rattle.strong_components.proofs.BasicLemmas.{has_at, mark_kept, fewer_unmarked}
use Rattle.strong_components.proofs.GatherLemmas.{spread_stays, spread_given}
use Rattle.strong_components.proofs.OrderingLemmas.{drop_from}
use Rattle.strong_components.proofs.gather.Gathering.assign_all.Invariants.{AreGiven}
use Rattle.strong_components.proofs.gather.Gathering.assign_all.Goals as goal

drop_next : (nodes : List ℕ) (n : ℕ) → n < length nodes → drop n nodes ≡ slice_index nodes n ∷ drop (n + 1) nodes
drop_next nodes n l =
    drop_from nodes n l ∙ ap (λ k. slice_index nodes n ∷ drop k nodes) (sym (add-one n))

drop_all : (nodes : List ℕ) (n : ℕ) → length nodes ≤ n → drop n nodes ≡ []
drop_all [] zero l = refl
drop_all [] (suc n) l = refl
drop_all (x ∷ nodes) zero l = absurd (omega (arith, l))
drop_all (x ∷ nodes) (suc n) l = drop_all nodes n (omega (arith, l))

-- one node more
given_more : (root : ℕ) (nodes : List ℕ) (n : ℕ) (met : List Bool) (roots pending : List ℕ) (met1 : List Bool)
    (roots1 pending1 : List ℕ) (met2 : List Bool) (roots2 pending2 : List ℕ)
    → AreGiven root nodes n met roots pending met1 roots1 pending1 → n < length nodes
    → slice_index nodes n < length met1
    → (slice_index_or met1 (slice_index nodes n) false ≡ true
    → (met2 ≡ met1) × (roots2 ≡ roots1) × (pending2 ≡ pending1))
    → (slice_index_or met1 (slice_index nodes n) false ≡ false
    → (met2 ≡ set met1 (slice_index nodes n) true) × (roots2 ≡ set roots1 (slice_index nodes n) root)
    × (pending2 ≡ pending1 ++ slice_index nodes n ∷ []))
    → AreGiven root nodes (n + 1) met roots pending met2 roots2 pending2
given_more root nodes n met roots pending met1 roots1 pending1 met2 roots2 pending2 a l within stays given =
    by (slice_index_or met1 node false) refl
  where
    node : ℕ
    node = slice_index nodes n

    shift : (g : Links) (met_old : List Bool) (roots_old : List ℕ)
        → IsSpread g root met_old roots_old met1 roots1 pending1 (has (drop n nodes))
        → IsSpread g root met_old roots_old met1 roots1 pending1 (λ u. u == node || has (drop (n + 1) nodes) u)
    shift g met_old roots_old s =
        subst (λ (xs : List ℕ). IsSpread g root met_old roots_old met1 roots1 pending1 (has xs)) (drop_next nodes n l) s

    by : (b : Bool) → slice_index_or met1 node false ≡ b
        → AreGiven root nodes (n + 1) met roots pending met2 roots2 pending2
    by true is =
        let e = stays is in
        rw (e.0, e.1, e.2)
        (record {
          met_len = a.met_len;
          roots_len = a.roots_len;
          spread = λ g met_old roots_old s r.
              spread_stays g root met_old roots_old met1 roots1 pending1 node (has (drop (n + 1) nodes))
              (shift g met_old roots_old (a.spread g met_old roots_old s r)) is;
          kept = a.kept;
          smaller = a.smaller;
        })
    by false is =
        let e = given is in
        rw (e.0, e.1, e.2)
        (record {
          met_len = length-set met1 node true ∙ a.met_len;
          roots_len = length-set roots1 node root ∙ a.roots_len;
          spread = λ g met_old roots_old s r.
              let now = a.spread g met_old roots_old s r in
              spread_given g root met_old roots_old met1 roots1 pending1 node (has (drop (n + 1) nodes))
              (shift g met_old roots_old now) is (rw (← now.met_len) within) (r node (has_at nodes n l));
          kept = λ v h. mark_kept met1 node v (a.kept v h);
          smaller =
              let less = fewer_unmarked met1 node within is in
              let one = length-append pending1 (node ∷ []) in
              let old = a.smaller in
              omega (arith, less, one, old);
        })

within_at : (nodes : List ℕ) (n : ℕ) (met now : List Bool) → ((v : ℕ) → has nodes v ≡ true → v < length met)
    → length now ≡ length met → n < length nodes → slice_index nodes n < length now
within_at nodes n met now h len l = rw len (h (slice_index nodes n) (has_at nodes n l))

pub assign-requires-clause-node : goal.assign-requires-clause-node
assign-requires-clause-node c =
    within_at c.args.nodes.now c.loop-node.node-index c.args.self.now.met c.loop-node.self.met c.requires.nodes
    c.loop-node.invariant.met_len c.loop-node-test.true

pub loop-node-preserved : goal.loop-node-preserved
loop-node-preserved c =
    given_more c.args.root c.args.nodes.now c.loop-node.node-index c.args.self.now.met c.args.self.now.roots
    c.args.self.now.pending c.loop-node.self.met c.loop-node.self.roots c.loop-node.self.pending c.assign.new.self.met
    c.assign.new.self.roots c.assign.new.self.pending c.loop-node.invariant c.loop-node-test.true
    (within_at c.args.nodes.now c.loop-node.node-index c.args.self.now.met c.loop-node.self.met c.requires.nodes
    c.loop-node.invariant.met_len c.loop-node-test.true)
    c.in_ok-assign.ensures.stays c.in_ok-assign.ensures.given

pub returns-clause-spread : goal.returns-clause-spread
returns-clause-spread c = λ g met roots s r.
    subst (λ (xs : List ℕ). IsSpread g c.args.root met roots c.loop-node.self.met c.loop-node.self.roots
    c.loop-node.self.pending (has xs))
    (drop_all c.args.nodes.now c.loop-node.node-index c.loop-node-test.false)
    (c.loop-node.invariant.spread g met roots s r)
