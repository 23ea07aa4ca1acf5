-- The roots of the components.
use Rattle.std.proofs.Common.{◌≡◌, ◌<◌, ◌⊎◌, inl, inr, ℕ, Bool, true, false, List, [], ◌∷◌, ◌++◌, length, set, replicate, refl, sym, ◌∙◌, ap, subst}
use Rattle.std.specs.Prelude.{◌||◌, ◌==◌, slice_index, slice_index_or}
use Rattle.std.specs.List.{AllByRecursion}
use Rattle.std.proofs.lemmas.Bool.{false≢true}
use Rattle.std.proofs.lemmas.List.{length-set, get_or-set_same, get_or-set_other, length-replicate}
use Rattle.topological_order.specs.Order.{Links, Link, links_of, has, target, IsChain}
use Rattle.topological_order.proofs.OrderLemmas.{has-push, has_more, has_last, link_node}
use Rattle.strong_components.specs.Components.{Reaches, AreMutual}
use Rattle.strong_components.specs.Finish.{AreBack, AreOver, ReachesBack, IsFinishOrder}
use Rattle.strong_components.specs.Gather.{AreRoots, IsClosed, IsNew, IsSpread, IsGathered, IsGathering}
use Rattle.strong_components.proofs.BasicLemmas.{same, differ, either, by_left, by_right, or_false, has_at, mark_here, mark_there, mark_kept, none_marked, each_last, reaches_self, reaches_on, reaches_link, reaches_back}
use Rattle.strong_components.proofs.FinishLemmas.{first_at}

-- ---- the root is given

-- nothing is given yet
pub spread_begun : (g : Links) (root : ℕ) (met : List Bool) (roots : List ℕ) (in_hand : ℕ → Bool) → IsClosed g met roots
    → IsSpread g root met roots met roots [] in_hand
spread_begun g root met roots in_hand c = record {
  met_len = c.met_len;
  roots_len = c.roots_len;
  kept = λ v h. (h, refl);
  sound = λ v h. inl h;
  closed = λ v t link h. by_right (in_hand v) (slice_index_or met v false) (c.closed v t link h);
  waiting = λ v h. absurd (false≢true h);
}

-- a node in hand that has a root
pub spread_stays : (g : Links) (root : ℕ) (met : List Bool) (roots : List ℕ) (met_now : List Bool)
    (roots_now pending : List ℕ) (node : ℕ) (in_hand : ℕ → Bool)
    → IsSpread g root met roots met_now roots_now pending (λ u. u == node || in_hand u)
    → slice_index_or met_now node false ≡ true
    → IsSpread g root met roots met_now roots_now pending in_hand
spread_stays g root met roots met_now roots_now pending node in_hand s has_one = record {
  met_len = s.met_len;
  roots_len = s.roots_len;
  kept = s.kept;
  sound = s.sound;
  closed = λ v t link h. closed_at v t (v == node) refl (s.closed v t link h);
  waiting = s.waiting;
}
  where
    closed_at : (v t : ℕ) (b : Bool) → (v == node) ≡ b
        → ((has pending t || (b || in_hand v)) || slice_index_or met_now v false) ≡ true
        → ((has pending t || in_hand v) || slice_index_or met_now v false) ≡ true
    closed_at v t true is h =
        by_right (has pending t || in_hand v) (slice_index_or met_now v false)
        (subst (λ (x : ℕ). slice_index_or met_now x false ≡ true) (sym (same v node is)) has_one)
    closed_at v t false is h = h

-- a node in hand that has none
pub spread_given : (g : Links) (root : ℕ) (met : List Bool) (roots : List ℕ) (met_now : List Bool)
    (roots_now pending : List ℕ) (node : ℕ) (in_hand : ℕ → Bool)
    → IsSpread g root met roots met_now roots_now pending (λ u. u == node || in_hand u)
    → slice_index_or met_now node false ≡ false → node < length g → Reaches g node root
    → IsSpread g root met roots (set met_now node true) (set roots_now node root) (pending ++ node ∷ []) in_hand
spread_given g root met roots met_now roots_now pending node in_hand s none l reach = record {
  met_len = length-set met_now node true ∙ s.met_len;
  roots_len = length-set roots_now node root ∙ s.roots_len;
  kept = λ v h. kept_at v (v == node) refl (s.kept v h);
  sound = λ v h. sound_at v (v == node) refl h;
  closed = λ v t link h. closed_at v t link (v == node) refl (t == node) refl h;
  waiting = λ v h. pending_at v (either (has pending v) (v == node) (sym (has-push pending node v) ∙ h));
}
  where
    there : (v : ℕ) → (v == node) ≡ false → slice_index (set roots_now node root) v ≡ slice_index roots_now v
    there v is = get_or-set_other roots_now node v root 0 (differ v node is)

    none_at : (v : ℕ) → (v == node) ≡ true → slice_index_or met_now v false ≡ true → ⊥
    none_at v is h =
        false≢true (sym none ∙ subst (λ (x : ℕ). slice_index_or met_now x false ≡ true) (same v node is) h)

    kept_at : (v : ℕ) (b : Bool) → (v == node) ≡ b
        → (slice_index_or met_now v false ≡ true) × (slice_index roots_now v ≡ slice_index roots v)
        → (slice_index_or (set met_now node true) v false ≡ true)
        × (slice_index (set roots_now node root) v ≡ slice_index roots v)
    kept_at v true is k = absurd (none_at v is k.0)
    kept_at v false is k = (mark_kept met_now node v k.0, there v is ∙ k.1)

    before : (v : ℕ) → (slice_index_or met v false ≡ true) → slice_index_or met_now v false ≡ false → ⊥
    before v h off = false≢true (sym off ∙ (s.kept v h).0)

    open_before : (v : ℕ) (b : Bool) → slice_index_or met v false ≡ b → slice_index_or met_now v false ≡ false
        → slice_index_or met v false ≡ false
    open_before v true is off = absurd (before v is off)
    open_before v false is off = is

    sound_at : (v : ℕ) (b : Bool) → (v == node) ≡ b → slice_index_or (set met_now node true) v false ≡ true
        → (slice_index_or met v false ≡ true) ⊎ IsNew g root met (set roots_now node root) v
    sound_at v true is h = subst
        (λ (x : ℕ). (slice_index_or met x false ≡ true) ⊎ IsNew g root met (set roots_now node root) x)
        (sym (same v node is))
        (inr (record {
          root_is = get_or-set_same roots_now node root 0 (rw s.roots_len l);
          open_yet = open_before node (slice_index_or met node false) refl none;
          reaches = reach;
        }))
    sound_at v false is h = other (s.sound v (sym (mark_there met_now node v is) ∙ h))
      where
        other : (slice_index_or met v false ≡ true) ⊎ IsNew g root met roots_now v
            → (slice_index_or met v false ≡ true) ⊎ IsNew g root met (set roots_now node root) v
        other (inl old) = inl old
        other (inr new) =
            inr (record { root_is = there v is ∙ new.root_is; open_yet = new.open_yet; reaches = new.reaches })

    closed_at : (v t : ℕ) → has (links_of g v) t ≡ true → (b : Bool) → (v == node) ≡ b → (c : Bool) → (t == node) ≡ c
        → slice_index_or (set met_now node true) t false ≡ true
        → ((has (pending ++ node ∷ []) t || in_hand v) || slice_index_or (set met_now node true) v false) ≡ true
    closed_at v t link true is c eq h =
        by_right (has (pending ++ node ∷ []) t || in_hand v) (slice_index_or (set met_now node true) v false)
        (subst (λ (x : ℕ). slice_index_or (set met_now node true) x false ≡ true) (sym (same v node is))
        (mark_here met_now node (rw s.met_len l)))
    closed_at v t link false is true eq h =
        by_left (has (pending ++ node ∷ []) t || in_hand v) (slice_index_or (set met_now node true) v false)
        (by_left (has (pending ++ node ∷ []) t) (in_hand v)
        (has-push pending node t ∙ by_right (has pending t) (t == node) eq))
    closed_at v t link false is false eq h =
        let old : ((has pending t || (v == node || in_hand v)) || slice_index_or met_now v false) ≡ true =
        s.closed v t link (sym (mark_there met_now node t eq) ∙ h) in
        rw (has-push pending node t, eq, or_false (has pending t), mark_there met_now node v is)
        (subst (λ (b : Bool). ((has pending t || (b || in_hand v)) || slice_index_or met_now v false) ≡ true) is old)

    pending_at : (v : ℕ) → (has pending v ≡ true) ⊎ ((v == node) ≡ true) → (v < length g) × Reaches g v root
    pending_at v (inl h) = s.waiting v h
    pending_at v (inr is) = subst (λ (x : ℕ). (x < length g) × Reaches g x root) (sym (same v node is)) (l, reach)

-- a node isn't pending any longer: those that have a link to it are in hand
pub spread_taken : (g back : Links) (root : ℕ) (met : List Bool) (roots : List ℕ) (met_now : List Bool)
    (roots_now pending : List ℕ) (node : ℕ) → AreBack g back
    → IsSpread g root met roots met_now roots_now (pending ++ node ∷ []) (λ _. false)
    → IsSpread g root met roots met_now roots_now pending (has (links_of back node))
spread_taken g back root met roots met_now roots_now pending node turned s = record {
  met_len = s.met_len;
  roots_len = s.roots_len;
  kept = s.kept;
  sound = s.sound;
  closed = λ v t link h. closed_at v t link (t == node) refl (s.closed v t link h);
  waiting = λ v h. s.waiting v (has_more pending node v h);
}
  where
    closed_at : (v t : ℕ) → has (links_of g v) t ≡ true → (b : Bool) → (t == node) ≡ b
        → ((has (pending ++ node ∷ []) t || false) || slice_index_or met_now v false) ≡ true
        → ((has pending t || has (links_of back node) v) || slice_index_or met_now v false) ≡ true
    closed_at v t link true eq h =
        by_left (has pending t || has (links_of back node) v) (slice_index_or met_now v false)
        (by_right (has pending t) (has (links_of back node) v)
        (turned node v ∙ subst (λ (x : ℕ). has (links_of g v) x ≡ true) (same t node eq) link))
    closed_at v t link false eq h =
        let kept : (has (pending ++ node ∷ []) t || false) ≡ has pending t =
        or_false (has (pending ++ node ∷ []) t) ∙ has-push pending node t
        ∙ ap (λ b. has pending t || b) eq ∙ or_false (has pending t) in
        more (has pending t) (has (links_of back node) v) (slice_index_or met_now v false)
        (subst (λ (b : Bool). (b || slice_index_or met_now v false) ≡ true) kept h)
      where
        more : (a b c : Bool) → (a || c) ≡ true → ((a || b) || c) ≡ true
        more true b c h = refl
        more false b c h = by_right b c h

-- those that have a link to a pending node reach the root
pub back_reach : (g back : Links) (root : ℕ) (met : List Bool) (roots : List ℕ) (met_now : List Bool)
    (roots_now pending : List ℕ) (node : ℕ) (in_hand : ℕ → Bool) → AreBack g back
    → IsSpread g root met roots met_now roots_now (pending ++ node ∷ []) in_hand
    → (v : ℕ) → has (links_of back node) v ≡ true → Reaches g v root
back_reach g back root met roots met_now roots_now pending node in_hand turned s v h =
    reaches_on g v node root (reaches_link g v node (sym (turned node v) ∙ h))
    (s.waiting node (has_last pending node)).1

-- nothing is pending or in hand
pub spread_done : (g : Links) (root : ℕ) (met : List Bool) (roots : List ℕ) (met_now : List Bool)
    (roots_now pending : List ℕ) → IsSpread g root met roots met_now roots_now pending (λ _. false) → pending ≡ []
    → slice_index_or met_now root false ≡ true → IsGathered g root met roots met_now roots_now
spread_done g root met roots met_now roots_now pending s empty there = record {
  closed = record {
    met_len = s.met_len;
    roots_len = s.roots_len;
    closed = λ v t link h.
        subst (λ (xs : List ℕ). ((has xs t || false) || slice_index_or met_now v false) ≡ true) empty
        (s.closed v t link h);
  };
  kept = s.kept;
  sound = s.sound;
  there = there;
}

-- the root gets itself, unless it has one
pub spread_first : (g : Links) (root : ℕ) (met : List Bool) (roots : List ℕ) (pending : List ℕ) (met1 : List Bool)
    (roots1 pending1 : List ℕ)
    → IsClosed g met roots → root < length g → pending ≡ []
    → (slice_index_or met root false ≡ true → (met1 ≡ met) × (roots1 ≡ roots) × (pending1 ≡ pending))
    → (slice_index_or met root false ≡ false
    → (met1 ≡ set met root true) × (roots1 ≡ set roots root root) × (pending1 ≡ pending ++ root ∷ []))
    → IsSpread g root met roots met1 roots1 pending1 (λ _. false) × (slice_index_or met1 root false ≡ true)
spread_first g root met roots pending met1 roots1 pending1 c l empty stays given =
    by (slice_index_or met root false) refl
  where
    by : (b : Bool) → slice_index_or met root false ≡ b
        → IsSpread g root met roots met1 roots1 pending1 (λ _. false) × (slice_index_or met1 root false ≡ true)
    by true is =
        let s = stays is in
        rw (s.0, s.1, s.2, empty) (spread_begun g root met roots (λ _. false) c, is)
    by false is =
        let s = given is in
        rw (s.0, s.1, s.2, empty) (
          spread_given g root met roots met roots [] root (λ _. false)
              (spread_begun g root met roots (λ u. u == root || false) c) is l (reaches_self g root),
          mark_here met root (rw c.met_len l),
        )

-- ---- each root in turn

pub gathering_begun : (g : Links) (finished : List ℕ) → IsFinishOrder g finished
    → IsGathering g finished (replicate (length g) false) (replicate (length g) 0)
gathering_begun g finished f = record {
  closed = record {
    met_len = length-replicate (length g) false;
    roots_len = length-replicate (length g) 0;
    closed = λ v t link h. absurd (false≢true (sym (none_marked (length g) t) ∙ h));
  };
  each = f.each;
  nodes = f.nodes;
  open_yet = λ v l off. f.all v l;
  of_root = λ v h. absurd (false≢true (sym (none_marked (length g) v) ∙ h));
  same = λ v w h k m. absurd (false≢true (sym (none_marked (length g) v) ∙ h));
}

-- the nodes of a chain from one that has no root have none
open_chain : (g : Links) (met : List Bool) (roots : List ℕ) → IsClosed g met roots → (v w : ℕ) (path : List Link)
    → IsChain g v path w → slice_index_or met v false ≡ false
    → AllByRecursion (λ e. (e.0 < length g) × (slice_index_or met e.0 false ≡ false)) path
open_chain g met roots c v w [] h off = tt
open_chain g met roots c v w (e ∷ path) h off =
    let here : slice_index_or met e.0 false ≡ false =
    subst (λ (x : ℕ). slice_index_or met x false ≡ false) (sym h.0) off in (
      (link_node g e.0 e.1 h.1, here),
      open_chain g met roots c (target g e) w path h.2 (next (slice_index_or met (target g e) false) refl here),
    )
  where
    next : (b : Bool) → slice_index_or met (target g e) false ≡ b → slice_index_or met e.0 false ≡ false
        → slice_index_or met (target g e) false ≡ false
    next true is here =
        absurd (false≢true (sym here ∙ c.closed e.0 (target g e) (has_at (links_of g e.0) e.1 h.1) is))
    next false is here = is

all_over : (g : Links) (finished : List ℕ) (met : List Bool)
    → ((v : ℕ) → v < length g → slice_index_or met v false ≡ false → has finished v ≡ true)
    → (path : List Link) → AllByRecursion (λ e. (e.0 < length g) × (slice_index_or met e.0 false ≡ false)) path
    → AreOver finished path
all_over g finished met open_yet [] h = tt
all_over g finished met open_yet (e ∷ path) h =
    (open_yet e.0 h.0.0 h.0.1, all_over g finished met open_yet path h.1)

-- the last finished node reaches each that reaches it and has no root
last_reaches : (g : Links) (finished : List ℕ) (node : ℕ) (met : List Bool) (roots : List ℕ)
    → IsGathering g (finished ++ node ∷ []) met roots → (v : ℕ) → slice_index_or met v false ≡ false
    → Reaches g v node → Reaches g node v
last_reaches g finished node met roots s v off r =
    by (first_at g finished node v node r.path r.leads
    (all_over g (finished ++ node ∷ []) met s.open_yet r.path
    (open_chain g met roots s.closed v node r.path r.leads off)))
  where
    last : ReachesBack g finished node
    last = (each_last (ReachesBack g) [] finished node s.each).1

    by : AreOver finished r.path ⊎ ((first : List Link) × IsChain g v first node × AreOver finished first)
        → Reaches g node v
    by (inl over) = last.back v r.path r.leads over
    by (inr (first, leads, over)) = last.back v first leads over

pub gathering_more : (g : Links) (finished : List ℕ) (node : ℕ) (met : List Bool) (roots : List ℕ) (met_now : List Bool)
    (roots_now : List ℕ) → IsGathering g (finished ++ node ∷ []) met roots
    → IsGathered g node met roots met_now roots_now → IsGathering g finished met_now roots_now
gathering_more g finished node met roots met_now roots_now s d = record {
  closed = d.closed;
  each = (each_last (ReachesBack g) [] finished node s.each).0;
  nodes = λ v h. s.nodes v (has_more finished node v h);
  open_yet = λ v l off. open_at v off (v == node) refl
      (sym (has-push finished node v) ∙ s.open_yet v l (open_before v off (slice_index_or met v false) refl));
  of_root = λ v h. root_at v (d.sound v h);
  same = λ v w h k m. same_at v w m (d.sound v h) (d.sound w k);
}
  where
    open_before : (v : ℕ) → slice_index_or met_now v false ≡ false → (b : Bool) → slice_index_or met v false ≡ b
        → slice_index_or met v false ≡ false
    open_before v off true is = absurd (false≢true (sym off ∙ (d.kept v is).0))
    open_before v off false is = is

    open_at : (v : ℕ) → slice_index_or met_now v false ≡ false → (b : Bool) → (v == node) ≡ b
        → (has finished v || b) ≡ true → has finished v ≡ true
    open_at v off true is h =
        absurd (false≢true (sym off
        ∙ subst (λ (x : ℕ). slice_index_or met_now x false ≡ true) (sym (same v node is)) d.there))
    open_at v off false is h = sym (or_false (has finished v)) ∙ h

    new_mutual : (v : ℕ) → IsNew g node met roots_now v → AreMutual g v node
    new_mutual v n =
        record { there = n.reaches; back = last_reaches g finished node met roots s v n.open_yet n.reaches }

    root_at : (v : ℕ) → (slice_index_or met v false ≡ true) ⊎ IsNew g node met roots_now v
        → AreMutual g v (slice_index roots_now v)
    root_at v (inl old) = subst (λ (x : ℕ). AreMutual g v x) (sym (d.kept v old).1) (s.of_root v old)
    root_at v (inr n) = subst (λ (x : ℕ). AreMutual g v x) (sym n.root_is) (new_mutual v n)

    -- one that reaches a node with a root has one
    mixed : (v w : ℕ) → Reaches g w v → slice_index_or met v false ≡ true → slice_index_or met w false ≡ false → ⊥
    mixed v w r h off =
        false≢true (sym off
        ∙ reaches_back g (λ x. slice_index_or met x false ≡ true) s.closed.closed w v r.path r.leads h)

    same_at : (v w : ℕ) → AreMutual g v w → (slice_index_or met v false ≡ true) ⊎ IsNew g node met roots_now v
        → (slice_index_or met w false ≡ true) ⊎ IsNew g node met roots_now w
        → slice_index roots_now v ≡ slice_index roots_now w
    same_at v w m (inl old) (inl older) = (d.kept v old).1 ∙ s.same v w old older m ∙ sym (d.kept w older).1
    same_at v w m (inl old) (inr n) = absurd (mixed v w m.back old n.open_yet)
    same_at v w m (inr n) (inl old) = absurd (mixed w v m.there old n.open_yet)
    same_at v w m (inr n) (inr k) = n.root_is ∙ sym k.root_is

-- all nodes have a root
pub gathering_done : (g : Links) (finished : List ℕ) (met : List Bool) (roots : List ℕ)
    → IsGathering g finished met roots → finished ≡ [] → AreRoots g roots
gathering_done g finished met roots s empty = record {
  len = s.closed.roots_len;
  of_root = λ v l. s.of_root v (met_at v l (slice_index_or met v false) refl);
  same = λ v w l k m. s.same v w (met_at v l (slice_index_or met v false) refl)
      (met_at w k (slice_index_or met w false) refl) m;
}
  where
    met_at : (v : ℕ) → v < length g → (b : Bool) → slice_index_or met v false ≡ b → slice_index_or met v false ≡ true
    met_at v l true is = is
    met_at v l false is =
        absurd (false≢true (subst (λ (xs : List ℕ). has xs v ≡ true) empty (s.open_yet v l is)))
