-- The sites of a plain tree over two texts of which the string literals have moved.
use Rattle.std.specs.Prelude.{ℕ, ◌+◌, ◌≤◌, List, [], ◌∷◌, map}
use Rattle.std.proofs.Common.{◌≡◌, refl, sym, subst, arith}
use Rattle.es_token.specs.declared.token.Token.{Token}
use Rattle.grammar_theory.specs.Plain.{Plain, node, leaf, nil, cons, mark, turn, via, made}
use Rattle.es_grammar.specs.types.Order.{StandsBetween}
use Rattle.es_grammar.specs.declared.rows.NodeKind.{NodeKind}
use Rattle.es_grammar.specs.declared.cst.tree.Cst.{Cst}
use Rattle.es_grammar.specs.declared.cst.tree.Cst.TheVariants as vCst
use Rattle.es_grammar.specs.cst.Slim.{parts_in, slim, tree_of}
use Rattle.es_law_sites.specs.plain.Part.{Part, token, packed}
use Rattle.es_law_sites.specs.plain.Own.{part_of, plain_sites}
use Rattle.es_law_sites.proofs.plain.Equations.{part_leaf, part_node, part_role, part_parts}
use Rattle.source_text.specs.declared.text_changes.change.TextChange.{TextChange}
use Rattle.es_law_edits.proofs.sites.Attributes.{Keeps}
use Rattle.es_law_edits.proofs.sites.Parts.{Moves, Alike, ahead, wider, as_target_alike, found_moves}
use Rattle.es_law_edits.proofs.sites.Parts as a
use Rattle.es_law_edits.proofs.sites.Own.{StrsMove, own_moves}

module _ (changes : List TextChange) (x : List ℕ) (ts : List Token) (y : List ℕ) (us : List Token)
    (strs : StrsMove changes x ts y us) (keeps : Keeps changes x ts y us) where
  abbrev Same : ℕ → ℕ → Part → Part → Type 0
  Same f to p q = Alike changes x ts f to p q

  abbrev parts : Plain NodeKind → List Cst
  parts p = parts_in (made slim p)

  abbrev old_parts : List Cst → Part
  old_parts trees = packed (map (part_of x ts) trees)

  abbrev new_parts : List Cst → Part
  new_parts trees = packed (map (part_of y us) trees)

  TreeMoves : ℕ → ℕ → Plain NodeKind → Type 0
  TreeMoves f to p =
      Same f to (part_of x ts (tree_of p)) (part_of y us (tree_of p))
      × Same f to (old_parts (parts p)) (new_parts (parts p))

  by_forms : (f to : ℕ) (p q r s : Part) → p ≡ q → r ≡ s → Same f to q s → Same f to p r
  by_forms f to p q r s e g h =
      let P : Part → Type 0 = λ k. Same f to k r in
      let Q : Part → Type 0 = λ k. Same f to q k in
      subst P (sym e) (subst Q (sym g) h)

  listed : (f to : ℕ) (all : List Cst) → Same f to (old_parts all) (new_parts all)
      → Same f to (part_of x ts (vCst.Parts all)) (part_of y us (vCst.Parts all))
  listed f to all h = by_forms f to _ _ _ _ (part_parts x ts all) (part_parts y us all) h

  node_moves : (f to first next : ℕ) (label : NodeKind) (all : List Cst) → f ≤ first → next ≤ to
      → Same first next (old_parts all) (new_parts all)
      → Same f to (part_of x ts (vCst.Node label first next all)) (part_of y us (vCst.Node label first next all))
  node_moves f to first next label all low high h =
      by_forms f to _ _ _ _ (part_node x ts label first next all) (part_node y us label first next all)
      (a.made label low high (ahead h) (λ never. refl) h
      (own_moves changes x ts y us strs keeps label first next (old_parts all) (new_parts all) h))

  tree_moves : (f to : ℕ) (p : Plain NodeKind) → StandsBetween f to p → TreeMoves f to p
  unfolding made TreeMoves
  tree_moves f to (node label first next ps) h =
      let inner = (tree_moves first next ps h.2).1 in
      let low : f ≤ first = h.0 in
      let mid : first ≤ next = ahead inner in
      let high : next ≤ to = h.1 in
      (node_moves f to first next label (parts ps) low high inner, a.end (omega (arith, low, mid, high)))
  tree_moves f to (leaf s n) h =
      let whole : Same f to (token n) (token n) = a.leaf n h.0 h.1 in
      (by_forms f to _ _ _ _ (part_leaf x ts n) (part_leaf y us n) whole, a.end (ahead whole))
  tree_moves f to nil h = (listed f to [] (a.end h), a.end h)
  tree_moves f to (cons p ps) h =
      let all = a.pair (tree_moves f h.0 p h.1).0 (tree_moves h.0 to ps h.2).1 in
      (listed f to (tree_of p ∷ parts ps) all, all)
  tree_moves f to (mark n ps) h =
      let low : f ≤ n = h.0 in
      let rest = tree_moves (n + 1) to ps h.1 in
      let start : f ≤ n + 1 = omega (arith, low) in
      (wider start (omega arith) rest.0, wider start (omega arith) rest.1)
  tree_moves f to (turn p ps) h =
      let all = a.pair (tree_moves f h.0 p h.1).0 (tree_moves h.0 to ps h.2).1 in
      (listed f to (tree_of p ∷ parts ps) all, all)
  tree_moves f to (via label p) h =
      let whole = tree_moves f to p h in (
        by_forms f to _ _ _ _ (part_role x ts label (tree_of p)) (part_role y us label (tree_of p))
            (as_target_alike whole.0),
        a.end (ahead whole.0),
      )

  pub plain_moves : (f to : ℕ) (p : Plain NodeKind) → StandsBetween f to p
      → Moves changes ts f to (plain_sites x ts (tree_of p)) (plain_sites y us (tree_of p))
  unfolding TreeMoves
  plain_moves f to p h = found_moves (tree_moves f to p h).0
