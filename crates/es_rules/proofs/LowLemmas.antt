-- The bounded reader answers as the reader of plain trees, where no path of the tree has too many nodes, and else
-- nothing: for a table whose alternatives have other names than those of the table of programs.
use Rattle.std.specs.Prelude.{List, Bool, true, false, leb, max, ◌&&◌}
use Rattle.std.proofs.Common.{◌≡◌, ℕ, zero, suc, ◌+◌, ◌<◌, ◌≤◌, length, refl, sym, ap, ◌∙◌, arith, leb-true, leb-false, le-leb}
use Rattle.std.proofs.lemmas.Bool.{lt-leb}
use Rattle.grammar_theory.specs.Key.{Key, seen, has_kind, is}
use Rattle.grammar_theory.specs.Productions.{Predicate, test, Rhs, done, tok, punct, row, opt, many, alt, when_, where_, Production, refuse, make, choose, as_, pick, wrap}
use Rattle.grammar_theory.specs.Plain.{Plain, node, leaf, nil, cons, mark, turn, via, over, tall, Makes, made, plain}
use Rattle.grammar_theory.specs.Fits.{most_nodes}
use Rattle.grammar_theory.specs.Checks.{IsSteady, leans_by_turns}
use Rattle.grammar_theory.specs.Reader.{Out, nothing, gives, and_then, changed, only_if, either, read_turns, read_wraps, read_form, read_rule, read_row}
use Rattle.grammar_theory.proofs.OutLemmas.{nothing_gives, gives_same, only_if-gives}
use Rattle.grammar_theory.proofs.Progress.{both_hold}
use Rattle.grammar_theory.proofs.TallLemmas.{node_stands}
use Rattle.grammar_theory.proofs.RoomLemmas.{not_true, read_within}
use Rattle.es_grammar.specs.declared.rows.NodeKind.{NodeKind}
use Rattle.es_grammar.specs.Conditions.{leans}
use Rattle.es_grammar.specs.cst.Slim.{Kept, slim}
use Rattle.es_rules.specs.Labelled.{labelled}
use Rattle.es_rules.specs.Bounded.{Read, makes, node_at, turned_at, form_at, wraps_at, rule_at, row_at}

-- a greater number is small where both are
leb_max : (a b n : ℕ) → leb (max a b) n ≡ leb a n && leb b n
leb_max a b n = go (leb a n) (leb b n) refl refl
  where
    go : (x y : Bool) → leb a n ≡ x → leb b n ≡ y → leb (max a b) n ≡ x && y
    go true true e h =
        let p : a ≤ n = leb-true a n e in let q : b ≤ n = leb-true b n h in le-leb (max a b) n (omega arith)
    go true false e h = let q : n < b = leb-false b n h in lt-leb (max a b) n (omega arith)
    go false y e h = let p : n < a = leb-false a n e in lt-leb (max a b) n (omega arith)

-- what is small is made of what is small
suc_low : (n m : ℕ) → leb n m ≡ false → leb (suc n) m ≡ false
suc_low n m e = let p : m < n = leb-false n m e in lt-leb (suc n) m (omega arith)

over_first : (b : Bool) (x y n : ℕ) → leb x n ≡ false → leb (over b x y) n ≡ false
over_first true x y n e = let p : n < x = leb-false x n e in lt-leb (max x (suc y)) n (omega arith)
over_first false x y n e = let p : n < x = leb-false x n e in lt-leb (suc (max x y)) n (omega arith)

over_rest : (b : Bool) (x y n : ℕ) → leb y n ≡ false → leb (over b x y) n ≡ false
over_rest true x y n e = let p : n < y = leb-false y n e in lt-leb (max x (suc y)) n (omega arith)
over_rest false x y n e = let p : n < y = leb-false y n e in lt-leb (suc (max x y)) n (omega arith)

-- a rule whose alternatives keep their names is the same rule
pub labelled_same : {Row : Type 0} (a : Production Row NodeKind) → labelled (λ l. l) a ≡ a
labelled_same refuse = refl
labelled_same (make l f) = refl
labelled_same (choose t a b) = rw (labelled_same a, labelled_same b) refl
labelled_same (as_ w a) = rw (labelled_same a) refl
labelled_same (pick g a b) = rw (labelled_same a, labelled_same b) refl
labelled_same (wrap l a c f) = rw (labelled_same a) refl

module _ {Label : Type 0} (name : Label → NodeKind) (tells : Label → Bool) where
  -- what is kept of each part, its alternatives by these names
  abbrev pub slim_named : Makes Label Kept
  slim_named = record {
    of_node = λ l from to v. slim.of_node (name l) from to v;
    of_leaf = slim.of_leaf;
    of_nil = slim.of_nil;
    of_cons = slim.of_cons;
    of_mark = slim.of_mark;
    of_turn = slim.of_turn;
    of_via = λ l v. slim.of_via (name l) v;
  }

  -- a tree no path of which has too many nodes
  abbrev pub is_low : Plain Label → Bool
  is_low p = leb (tall tells p) most_nodes

  -- what is read of it
  abbrev pub read_of : Plain Label → Read
  read_of p = record { value = made slim_named p; height = tall tells p }

  -- what the bounded reader makes of an answer
  abbrev pub low : Out (Plain Label) → Out Read
  low nothing = nothing
  low (gives p to) = only_if (is_low p) (gives (read_of p) to)

  module _ (agrees : (l : Label) → leans (name l) ≡ tells l) where
    -- one part and others
    module _ (c : Plain Label → Plain Label → Plain Label) (m : Read → Read → Read)
        (same : (q ps : Plain Label) → read_of (c q ps) ≡ m (read_of q) (read_of ps))
        (grows : (q ps : Plain Label) → tall tells (c q ps) ≡ max (tall tells q) (tall tells ps)) where
      both_low : (q ps : Plain Label) → is_low (c q ps) ≡ is_low q && is_low ps
      both_low q ps = ap (λ n. leb n most_nodes) (grows q ps) ∙ leb_max (tall tells q) (tall tells ps) most_nodes

      -- behind a low part
      behind_low : (q : Plain Label) → is_low q ≡ true → (out : Out Read) (o : Out (Plain Label)) → out ≡ low o
          → changed (m (read_of q)) out ≡ low (changed (c q) o)
      behind_low q here out nothing e = rw e refl
      behind_low q here out (gives ps to) e =
          ap (changed (m (read_of q))) e ∙ go (is_low ps) refl
        where
          go : (x : Bool) → is_low ps ≡ x
              → changed (m (read_of q)) (only_if (is_low ps) (gives (read_of ps) to))
              ≡ only_if (is_low (c q ps)) (gives (read_of (c q ps)) to)
          go true h =
              let whole : is_low (c q ps) ≡ true = both_low q ps ∙ (rw (here, h) refl) in
              rw (h, whole) (ap (λ v. gives v to) (sym (same q ps)))
          go false h =
              let whole : is_low (c q ps) ≡ false = both_low q ps ∙ (rw (here, h) refl) in
              rw (h, whole) refl

      -- behind one that isn't
      behind_tall : (q : Plain Label) → is_low q ≡ false → (o : Out (Plain Label)) → nothing ≡ low (changed (c q) o)
      behind_tall q here nothing = refl
      behind_tall q here (gives ps to) =
          let whole : is_low (c q ps) ≡ false = both_low q ps ∙ (rw here refl) in rw whole refl

      -- a part, and then others
      then_low : (f : ℕ → Out Read) (g : ℕ → Out (Plain Label)) → ((at : ℕ) → f at ≡ low (g at))
          → (out : Out Read) (o : Out (Plain Label)) → out ≡ low o
          → and_then out (λ q mid. changed (m q) (f mid)) ≡ low (and_then o (λ q mid. changed (c q) (g mid)))
      then_low f g rest out nothing e = rw e refl
      then_low f g rest out (gives q mid) e =
          ap (λ o. and_then o (λ q mid. changed (m q) (f mid))) e ∙ go (is_low q) refl
        where
          go : (x : Bool) → is_low q ≡ x
              → and_then (only_if (is_low q) (gives (read_of q) mid)) (λ q mid. changed (m q) (f mid))
              ≡ low (changed (c q) (g mid))
          go true h = rw h (behind_low q h (f mid) (g mid) (rest mid))
          go false h = rw h (behind_tall q h (g mid))

    either_low : (t : Bool) (u v : Out Read) (x y : Out (Plain Label)) → u ≡ low x → v ≡ low y
        → either t u v ≡ low (either t x y)
    either_low true u v x y e h = e
    either_low false u v x y e h = h

    only_if_low : (t : Bool) (out : Out Read) (o : Out (Plain Label)) → out ≡ low o → only_if t out ≡ low (only_if t o)
    only_if_low true out o e = e
    only_if_low false out o e = refl

    -- what is as tall as what it is made of
    changed_low : (g : Read → Read) (h : Plain Label → Plain Label)
        → ((p : Plain Label) → read_of (h p) ≡ g (read_of p))
        → ((p : Plain Label) → tall tells (h p) ≡ tall tells p) → (out : Out Read) (o : Out (Plain Label)) → out ≡ low o
        → changed g out ≡ low (changed h o)
    changed_low g h same level out nothing e = rw e refl
    changed_low g h same level out (gives p to) e = ap (changed g) e ∙ go (is_low p) refl
      where
        whole : is_low (h p) ≡ is_low p
        whole = ap (λ n. leb n most_nodes) (level p)

        go : (x : Bool) → is_low p ≡ x
            → changed g (only_if (is_low p) (gives (read_of p) to))
            ≡ only_if (is_low (h p)) (gives (read_of (h p)) to)
        go true e = let there : is_low (h p) ≡ true = whole ∙ e in rw (e, there) (ap (λ v. gives v to) (sym (same p)))
        go false e = let there : is_low (h p) ≡ false = whole ∙ e in rw (e, there) refl

    -- a node that doesn't lean
    node_low : (l : Label) → tells l ≡ false → (from to : ℕ) (ps : Plain Label)
        → node_at (name l) from to (read_of ps) ≡ low (gives (node l from to ps) to)
    unfolding node_at made
    node_low l stands from to ps =
        ap (λ n. only_if (leb n most_nodes)
        (gives (record { value = made slim_named (node l from to ps); height = n }) to))
        (sym (node_stands tells l from to ps stands))

    node_high : (l : Label) → tells l ≡ false → (from to : ℕ) (ps : Plain Label) → is_low ps ≡ false
        → nothing ≡ low (gives (node l from to ps) to)
    node_high l stands from to ps e =
        let high : is_low (node l from to ps) ≡ false =
        ap (λ n. leb n most_nodes) (node_stands tells l from to ps stands) ∙ suc_low (tall tells ps) most_nodes e in
        rw high refl

    -- a node of an operand and a turn
    turned_low : (l : Label) (from to : ℕ) (q ps : Plain Label)
        → turned_at (name l) from to (read_of q) (read_of ps) ≡ low (gives (node l from to (cons q ps)) to)
    unfolding turned_at made
    turned_low l from to q ps =
        ap (λ b. only_if (leb (over b (tall tells q) (tall tells ps)) most_nodes)
        (gives (record {
          value = made slim_named (node l from to (cons q ps));
          height = over b (tall tells q) (tall tells ps);
        }) to)) (agrees l)

    -- ---- the readers

    made_cons : (q ps : Plain Label) → read_of (cons q ps) ≡ makes.of_cons (read_of q) (read_of ps)
    unfolding made
    made_cons q ps = refl

    made_turn : (q ps : Plain Label) → read_of (turn q ps) ≡ makes.of_turn (read_of q) (read_of ps)
    unfolding made
    made_turn q ps = refl

    grows_cons : (q ps : Plain Label) → tall tells (cons q ps) ≡ max (tall tells q) (tall tells ps)
    grows_cons q ps = refl

    grows_turn : (q ps : Plain Label) → tall tells (turn q ps) ≡ max (tall tells q) (tall tells ps)
    grows_turn q ps = refl

    nil_low : (at : ℕ) → gives makes.of_nil at ≡ low (gives nil at)
    unfolding made most_nodes
    nil_low at = refl

    module _ (K : List Key) where
      turns_low : (t : Predicate) (one : ℕ → Out Read) (each : ℕ → Out (Plain Label))
          → ((at : ℕ) → one at ≡ low (each at))
          → (n at : ℕ) → read_turns makes K t one n at ≡ low (read_turns plain K t each n at)
      unfolding read_turns
      turns_low t one each same zero at =
          either_low (t K at) nothing (gives makes.of_nil at) nothing (gives nil at) refl (nil_low at)
      turns_low t one each same (suc n) at =
          either_low (t K at) (and_then (one at) (λ q mid. changed (makes.of_turn q) (read_turns makes K t one n mid)))
          (gives makes.of_nil at) (and_then (each at) (λ q mid. changed (turn q) (read_turns plain K t each n mid)))
          (gives nil at)
          (then_low turn makes.of_turn made_turn grows_turn (read_turns makes K t one n) (read_turns plain K t each n)
          (turns_low t one each same n) (one at) (each at) (same at)) (nil_low at)

    module _ {Row : Type 0} (K : List Key) (below : Row → ℕ → Out Read) (under : Row → ℕ → Out (Plain Label))
        (same : (r : Row) (at : ℕ) → below r at ≡ low (under r at)) where
      rest_low : (f : ℕ → Out Read) (g : ℕ → Out (Plain Label)) → ((at : ℕ) → f at ≡ low (g at))
          → (out : Out Read) (o : Out (Plain Label)) → out ≡ low o
          → and_then out (λ q mid. changed (makes.of_cons q) (f mid))
          ≡ low (and_then o (λ q mid. changed (cons q) (g mid)))
      rest_low = then_low cons makes.of_cons made_cons grows_cons

      leaf_low : (n : ℕ) (s : _) → is_low (leaf s n) ≡ true
      unfolding most_nodes
      leaf_low n s = refl

      forms_low : (f : Rhs Row) (at : ℕ) → read_form makes K below f at ≡ low (read_form plain K under f at)
      unfolding made
      forms_low done at = nil_low at
      forms_low (tok s may f) at =
          only_if_low (has_kind may (seen K at))
          (changed (makes.of_cons (makes.of_leaf s at)) (read_form makes K below f (at + 1)))
          (changed (cons (leaf s at)) (read_form plain K under f (at + 1)))
          (behind_low cons makes.of_cons made_cons grows_cons (leaf s at) (leaf_low at s)
          (read_form makes K below f (at + 1))
          (read_form plain K under f (at + 1)) (forms_low f (at + 1)))
      forms_low (punct k f) at =
          only_if_low (is k (seen K at)) (changed (makes.of_mark at) (read_form makes K below f (at + 1)))
          (changed (mark at) (read_form plain K under f (at + 1)))
          (changed_low (makes.of_mark at) (mark at) (λ p. refl) (λ p. refl) (read_form makes K below f (at + 1))
          (read_form plain K under f (at + 1)) (forms_low f (at + 1)))
      forms_low (row r f) at =
          rest_low (read_form makes K below f) (read_form plain K under f) (forms_low f) (below r at) (under r at)
          (same r at)
      forms_low (opt c g f) at =
          rest_low (read_form makes K below f) (read_form plain K under f) (forms_low f)
          (either (test c K at) (read_form makes K below g at) (gives makes.of_nil at))
          (either (test c K at) (read_form plain K under g at) (gives nil at))
          (either_low (test c K at) (read_form makes K below g at) (gives makes.of_nil at)
          (read_form plain K under g at) (gives nil at) (forms_low g at) (nil_low at))
      forms_low (many c g f) at =
          rest_low (read_form makes K below f) (read_form plain K under f) (forms_low f)
          (read_turns makes K (test c) (read_form makes K below g) (length K) at)
          (read_turns plain K (test c) (read_form plain K under g) (length K) at)
          (turns_low K (test c) (read_form makes K below g) (read_form plain K under g) (forms_low g) (length K) at)
      forms_low (alt t a b f) at =
          rest_low (read_form makes K below f) (read_form plain K under f) (forms_low f)
          (either (t (seen K at)) (read_form makes K below a at) (read_form makes K below b at))
          (either (t (seen K at)) (read_form plain K under a at) (read_form plain K under b at))
          (either_low (t (seen K at)) (read_form makes K below a at) (read_form makes K below b at)
          (read_form plain K under a at) (read_form plain K under b at) (forms_low a at) (forms_low b at))
      forms_low (when_ t f) at =
          only_if_low (t (seen K at)) (read_form makes K below f at) (read_form plain K under f at) (forms_low f at)
      forms_low (where_ t f) at =
          only_if_low (t K at) (read_form makes K below f at) (read_form plain K under f at) (forms_low f at)

      form_low : (f : Rhs Row) (at : ℕ) → form_at K below f at ≡ low (read_form plain K under f at)
      unfolding form_at
      form_low f at = forms_low f at

      -- parts, and a node of them
      make_low : (l : Label) → tells l ≡ false → (from : ℕ) (out : Out Read) (o : Out (Plain Label)) → out ≡ low o
          → and_then out (λ ps to. node_at (name l) from to ps)
          ≡ low (and_then o (λ ps to. gives (node l from to ps) to))
      make_low l stands from out nothing e = rw e refl
      make_low l stands from out (gives ps to) e =
          ap (λ o. and_then o (λ ps to. node_at (name l) from to ps)) e ∙ go (is_low ps) refl
        where
          go : (x : Bool) → is_low ps ≡ x
              → and_then (only_if (is_low ps) (gives (read_of ps) to)) (λ ps to. node_at (name l) from to ps)
              ≡ low (gives (node l from to ps) to)
          go true h = rw h (node_low l stands from to ps)
          go false h = rw h (node_high l stands from to ps h)

      -- what a node that is too tall grows to
      stays_tall : (l : Label) (t : Predicate) (each : ℕ → Out (Plain Label)) (from n : ℕ) (q : Plain Label) (at : ℕ)
          → is_low q ≡ false
          → nothing ≡ low (read_wraps plain K l t each from n q at)
      unfolding read_wraps
      stays_tall l t each from zero q at high = go (t K at)
        where
          go : (x : Bool) → nothing ≡ low (either x nothing (gives q at))
          go true = refl
          go false = rw high refl
      stays_tall l t each from (suc n) q at high = go (λ p to. stays_tall l t each from n p to) (t K at) (each at)
        where
          go : ((p : Plain Label) (to : ℕ) → is_low p ≡ false → nothing ≡ low (read_wraps plain K l t each from n p to))
              → (x : Bool) (o : Out (Plain Label)) → nothing
              ≡ low (either x (and_then o (λ ps to. read_wraps plain K l t each from n (node l from to (cons q ps)) to))
              (gives q at))
          go again true nothing = refl
          go again true (gives ps to) =
              again (node l from to (cons q ps)) to
              (over_first (tells l) (tall tells q) (tall tells ps) most_nodes high)
          go again false o = rw high refl

      wraps_low : (l : Label) (t : Predicate) (parts : ℕ → Out Read) (each : ℕ → Out (Plain Label))
          → ((at : ℕ) → parts at ≡ low (each at))
          → (from n : ℕ) (q : Plain Label) (at : ℕ) → is_low q ≡ true
          → wraps_at K (name l) t parts from n (read_of q) at ≡ low (read_wraps plain K l t each from n q at)
      unfolding wraps_at read_wraps
      wraps_low l t parts each rest from zero q at here =
          either_low (t K at) nothing (gives (read_of q) at) nothing (gives q at) refl (rw here refl)
      wraps_low l t parts each rest from (suc n) q at here =
          either_low (t K at)
          (and_then (parts at)
          (λ ps to. and_then (turned_at (name l) from to (read_of q) ps)
          (wraps_at K (name l) t parts from n)))
          (gives (read_of q) at)
          (and_then (each at) (λ ps to. read_wraps plain K l t each from n (node l from to (cons q ps)) to))
          (gives q at)
          (go (λ p to. wraps_low l t parts each rest from n p to) (parts at) (each at) (rest at)) (rw here refl)
        where
          -- behind a node
          behind : ((p : Plain Label) (to : ℕ) → is_low p ≡ true
              → wraps_at K (name l) t parts from n (read_of p) to ≡ low (read_wraps plain K l t each from n p to))
              → (ps : Plain Label) (to : ℕ) (x : Bool) → is_low (node l from to (cons q ps)) ≡ x
              → and_then (low (gives (node l from to (cons q ps)) to)) (wraps_at K (name l) t parts from n)
              ≡ low (read_wraps plain K l t each from n (node l from to (cons q ps)) to)
          behind again ps to true h = rw h (again (node l from to (cons q ps)) to h)
          behind again ps to false h = rw h (stays_tall l t each from n (node l from to (cons q ps)) to h)

          one : ((p : Plain Label) (to : ℕ) → is_low p ≡ true
              → wraps_at K (name l) t parts from n (read_of p) to ≡ low (read_wraps plain K l t each from n p to))
              → (ps : Plain Label) (to : ℕ) (x : Bool) → is_low ps ≡ x
              → and_then (only_if (is_low ps) (gives (read_of ps) to))
              (λ ps to. and_then (turned_at (name l) from to (read_of q) ps)
              (wraps_at K (name l) t parts from n))
              ≡ low (read_wraps plain K l t each from n (node l from to (cons q ps)) to)
          one again ps to true h =
              rw h (ap (λ o. and_then o (wraps_at K (name l) t parts from n)) (turned_low l from to q ps)
              ∙ behind again ps to (is_low (node l from to (cons q ps))) refl)
          one again ps to false h =
              rw h (stays_tall l t each from n (node l from to (cons q ps)) to
              (over_rest (tells l) (tall tells q) (tall tells ps) most_nodes h))

          go : ((p : Plain Label) (to : ℕ) → is_low p ≡ true
              → wraps_at K (name l) t parts from n (read_of p) to ≡ low (read_wraps plain K l t each from n p to))
              → (out : Out Read) (o : Out (Plain Label)) → out ≡ low o
              → and_then out (λ ps to. and_then (turned_at (name l) from to (read_of q) ps)
              (wraps_at K (name l) t parts from n))
              ≡ low (and_then o (λ ps to. read_wraps plain K l t each from n (node l from to (cons q ps)) to))
          go again out nothing e = rw e refl
          go again out (gives ps to) e =
              ap (λ o. and_then o (λ ps to. and_then (turned_at (name l) from to (read_of q) ps)
              (wraps_at K (name l) t parts from n))) e
              ∙ one again ps to (is_low ps) refl

      -- an operand, and turns behind it
      operand_low : (l : Label) (t : Predicate) (parts : ℕ → Out Read) (each : ℕ → Out (Plain Label))
          → ((at : ℕ) → parts at ≡ low (each at))
          → (from n : ℕ) (out : Out Read) (o : Out (Plain Label)) → out ≡ low o
          → and_then out (λ q mid. wraps_at K (name l) t parts from n q mid)
          ≡ low (and_then o (λ q mid. read_wraps plain K l t each from n q mid))
      operand_low l t parts each rest from n out nothing e = rw e refl
      operand_low l t parts each rest from n out (gives q mid) e =
          ap (λ o. and_then o (λ q mid. wraps_at K (name l) t parts from n q mid)) e ∙ go (is_low q) refl
        where
          go : (x : Bool) → is_low q ≡ x
              → and_then (only_if (is_low q) (gives (read_of q) mid))
              (λ q mid. wraps_at K (name l) t parts from n q mid)
              ≡ low (read_wraps plain K l t each from n q mid)
          go true h = rw h (wraps_low l t parts each rest from n q mid h)
          go false h = rw h (stays_tall l t each from n q mid h)

      rule_low : (a : Production Row Label) → leans_by_turns tells a ≡ true → (at : ℕ)
          → rule_at K below (labelled name a) at ≡ low (read_rule plain K under a at)
      unfolding made
      rule_low refuse apart at = refl
      rule_low (make l f) apart at =
          make_low l (not_true (tells l) apart) at (form_at K below f at) (read_form plain K under f at) (form_low f at)
      rule_low (choose t a b) apart at =
          let both = both_hold (leans_by_turns tells a) (leans_by_turns tells b) apart in
          either_low (t (seen K at)) (rule_at K below (labelled name a) at)
          (rule_at K below (labelled name b) at)
          (read_rule plain K under a at) (read_rule plain K under b at) (rule_low a both.0 at) (rule_low b both.1 at)
      rule_low (as_ w a) apart at =
          changed_low (makes.of_via (name w)) (via w) (λ p. refl) (λ p. refl)
          (rule_at K below (labelled name a) at) (read_rule plain K under a at)
          (rule_low a apart at)
      rule_low (pick g a b) apart at =
          let both = both_hold (leans_by_turns tells a) (leans_by_turns tells b) apart in
          either_low (g K at) (rule_at K below (labelled name a) at) (rule_at K below (labelled name b) at)
          (read_rule plain K under a at) (read_rule plain K under b at) (rule_low a both.0 at) (rule_low b both.1 at)
      rule_low (wrap l a c f) apart at =
          operand_low l (test c) (form_at K below f) (read_form plain K under f) (form_low f) at (length K)
          (rule_at K below (labelled name a) at) (read_rule plain K under a at) (rule_low a apart at)

    -- a row, where no rule makes a node that leans but of an operand and turns
    module _ {Row : Type 0} (named_rule : Row → Production Row NodeKind) (rule : Row → Production Row Label)
        (same : (r : Row) → labelled name (rule r) ≡ named_rule r)
        (apart : (r : Row) → leans_by_turns tells (rule r) ≡ true) where
      pub row_low : (K : List Key) (room : ℕ) (r : Row) (at : ℕ)
          → row_at named_rule K room r at ≡ low (read_row plain K rule room r at)
      unfolding row_at read_row
      row_low K zero r at = refl
      row_low K (suc room) r at =
          ap (λ a. rule_at K (row_at named_rule K room) a at) (sym (same r))
          ∙ rule_low K (row_at named_rule K room) (read_row plain K rule room) (row_low K room) (rule r) (apart r) at

      -- what is read of a tree is what the plain reader answers
      low_gives : (o : Out (Plain Label)) (v : Read) (to : ℕ) → low o ≡ gives v to
          → (p : Plain Label) × (o ≡ gives p to) × (is_low p ≡ true) × (read_of p ≡ v)
      low_gives nothing v to e = nothing_gives v to e
      low_gives (gives p at) v to e =
          let held = only_if-gives (is_low p) (gives (read_of p) at) v to e in
          let same = gives_same (read_of p) v at to held.1 in
          (p, ap (gives p) same.1, held.0, same.0)

      -- no more room is needed than there may be nodes on a path
      pub row_within : (solid : Row → Bool) → IsSteady rule solid → (K : List Key) (room : ℕ) (r : Row) (at : ℕ) (v : Read)
          (to : ℕ) → at ≤ length K → row_at named_rule K room r at ≡ gives v to
          → row_at named_rule K most_nodes r at ≡ gives v to
      row_within solid steady K room r at v to place e =
          let found = low_gives (read_row plain K rule room r at) v to (sym (row_low K room r at) ∙ e) in
          let read : read_row plain K rule most_nodes r at ≡ gives found.0 to =
          read_within tells rule apart solid steady K room most_nodes r at found.0 to place found.1
          (leb-true (tall tells found.0) most_nodes found.2) in
          row_low K most_nodes r at ∙ (ap low read
          ∙ (ap (λ b. only_if b (gives (read_of found.0) to)) found.2 ∙ ap (λ u. gives u to) found.3))
