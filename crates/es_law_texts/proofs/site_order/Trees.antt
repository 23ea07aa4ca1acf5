-- The sites of a plain tree whose parts stand in order.
use Rattle.std.specs.Prelude.{ℕ, ◌+◌, ◌≤◌, List, [], ◌∷◌, map}
use Rattle.std.proofs.Common.{◌≡◌, refl, sym, subst, arith}
use Rattle.es_token.specs.declared.token.Token.{Token}
use Rattle.grammar_theory.specs.Plain.{Plain, node, leaf, nil, cons, mark, turn, via, made}
use Rattle.es_grammar.specs.types.Order.{StandsBetween}
use Rattle.es_grammar.specs.declared.rows.NodeKind.{NodeKind}
use Rattle.es_grammar.specs.declared.cst.tree.Cst.{Cst}
use Rattle.es_grammar.specs.declared.cst.tree.Cst.TheVariants as vCst
use Rattle.es_grammar.specs.cst.Slim.{parts_in, slim, tree_of}
use Rattle.es_law_sites.specs.plain.Part.{Part, packed}
use Rattle.es_law_sites.specs.plain.Own.{part_of, plain_sites}
use Rattle.es_law_sites.proofs.plain.Equations.{part_leaf, part_node, part_role, part_parts}
use Rattle.es_law_texts.specs.site_order.Order.{StandOn}
use Rattle.es_law_texts.proofs.site_order.Parts.{Stands, ahead, wider, as_target_stands, found_on}
use Rattle.es_law_texts.proofs.site_order.Parts as a
use Rattle.es_law_texts.proofs.site_order.Own.{own_on}

module _ (x : List ℕ) (ts : List Token) where
  abbrev parts : Plain NodeKind → List Cst
  parts p = parts_in (made slim p)

  abbrev become : List Cst → Part
  become trees = packed (map (part_of x ts) trees)

  TreeStands : ℕ → ℕ → Plain NodeKind → Type 0
  TreeStands f to p = Stands x ts f to (part_of x ts (tree_of p)) × Stands x ts f to (become (parts p))

  by_form : (f to : ℕ) (p q : Part) → p ≡ q → Stands x ts f to q → Stands x ts f to p
  by_form f to p q e h = let P : Part → Type 0 = λ k. Stands x ts f to k in subst P (sym e) h

  listed : (f to : ℕ) (all : List Cst) → Stands x ts f to (become all)
      → Stands x ts f to (part_of x ts (vCst.Parts all))
  listed f to all h = by_form f to _ _ (part_parts x ts all) h

  tree_stands : (f to : ℕ) (p : Plain NodeKind) → StandsBetween f to p → TreeStands f to p
  unfolding made TreeStands
  tree_stands f to (node label first next ps) h =
      let inner = (tree_stands first next ps h.2).1 in
      let low : f ≤ first = h.0 in
      let mid : first ≤ next = ahead inner in
      let high : next ≤ to = h.1 in (
        by_form f to _ _ (part_node x ts label first next (parts ps))
            (a.made label low high mid (λ never. refl) inner (own_on x ts label first next (become (parts ps)) inner)),
        a.end (omega (arith, low, mid, high)),
      )
  tree_stands f to (leaf s n) h =
      let whole = a.leaf n h.0 h.1 in (by_form f to _ _ (part_leaf x ts n) whole, a.end (ahead whole))
  tree_stands f to nil h = (listed f to [] (a.end h), a.end h)
  tree_stands f to (cons p ps) h =
      let all = a.pair (tree_stands f h.0 p h.1).0 (tree_stands h.0 to ps h.2).1 in
      (listed f to (tree_of p ∷ parts ps) all, all)
  tree_stands f to (mark n ps) h =
      let low : f ≤ n = h.0 in
      let rest = tree_stands (n + 1) to ps h.1 in
      let start : f ≤ n + 1 = omega (arith, low) in
      (wider start (omega arith) rest.0, wider start (omega arith) rest.1)
  tree_stands f to (turn p ps) h =
      let all = a.pair (tree_stands f h.0 p h.1).0 (tree_stands h.0 to ps h.2).1 in
      (listed f to (tree_of p ∷ parts ps) all, all)
  tree_stands f to (via label p) h =
      let whole = tree_stands f to p h in
      (by_form f to _ _ (part_role x ts label (tree_of p)) (as_target_stands whole.0), a.end (ahead whole.0))

  pub plain_stand : (f to : ℕ) (p : Plain NodeKind) → StandsBetween f to p
      → StandOn ts f to (plain_sites x ts (tree_of p))
  unfolding TreeStands
  plain_stand f to p h = (found_on (tree_stands f to p h).0).stand
