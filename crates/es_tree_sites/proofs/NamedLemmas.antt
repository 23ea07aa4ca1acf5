-- Where no node can name a module by itself, nothing is named.
use Rattle.std.specs.Prelude.{ℕ, zero, suc, Bool, true, false, ◌||◌, List, [], ◌∷◌, ◌++◌, length, take, drop, map}
use Rattle.std.proofs.Common.{◌≡◌, refl, sym, ap, subst, ◌∙◌}
use Rattle.es_token.specs.declared.token.Token.{Token}
use Rattle.es_grammar.specs.declared.rows.NodeKind.{NodeKind}
use Rattle.es_grammar.specs.declared.rows.NodeKind.TheVariants as l
use Rattle.es_grammar.specs.declared.cst.tree.Cst.{Cst}
use Rattle.es_grammar.specs.declared.cst.tree.Cst.TheVariants as vCst
use Rattle.es_syntax.specs.declared.entry.Entry.{Entry}
use Rattle.es_syntax.specs.declared.entry.Lean.{Lean}
use Rattle.es_syntax.specs.declared.entry.What.{What}
use Rattle.es_syntax.specs.declared.entry.What.TheVariants as vWhat
use Rattle.es_syntax.specs.Trees.{Kept, first_tree, leant_tree, trees_in, tree_by, kept_by}
use Rattle.es_site.specs.Sites.{Found}
use Rattle.es_law_sites.specs.plain.Part.{Part, absent, nil, more, token, node, found, packed, as_target}
use Rattle.es_law_sites.specs.plain.Own.{own, part_of}
use Rattle.es_law_sites.proofs.plain.Equations.{part_leaf, part_node, part_role, part_parts}
use Rattle.es_tree_sites.specs.declared.plan.Way.{Way}
use Rattle.es_tree_sites.specs.declared.plan.Way.TheVariants.{Skip}
use Rattle.es_tree_sites.specs.Parts.{kept, parts_of}
use Rattle.es_tree_sites.specs.Plan.{plan, is_tree, ways_in, rest_in, first_way, other_ways, as_tree, taken, on, names}
use Rattle.es_tree_sites.specs.Named.{names_module, may_name, any_may_name}
use Rattle.es_tree_sites.proofs.PartLemmas.{parts_kept}
use Rattle.es_tree_sites.proofs.PlanLemmas.{own_is}
use Rattle.es_tree_sites.proofs.LeanLemmas.{on_lean, leant_sites}

-- ---- none of two
neither : (a b : Bool) → (a || b) ≡ false → (a ≡ false) × (b ≡ false)
neither true b e = absurd (let bad : ⊥ = cc in bad)
neither false b e = (refl, e)

nor : (a b : Bool) → a ≡ false → b ≡ false → (a || b) ≡ false
nor true b e f = absurd (let bad : ⊥ = cc in bad)
nor false b e f = f

-- ---- parts without sites
abbrev Siteless : Part → Type 0
Siteless (more v vs) = Siteless v × Siteless vs
Siteless (node label p s) = s ≡ []
Siteless _ = Unit {0}

found_none : (v : Part) → Siteless v → found v ≡ []
found_none absent c = refl
found_none nil c = refl
found_none (more v vs) c = refl
found_none (token n) c = refl
found_none (node label p s) c = c

target_none : (v : Part) → Siteless v → Siteless (as_target v)
target_none absent c = tt
target_none nil c = tt
target_none (more v vs) c = tt
target_none (token n) c = tt
target_none (node label p s) c = c

-- ---- what is taken of them
then : (a b : Found) → a ≡ [] → b ≡ [] → a ++ b ≡ []
then a b e f = ap (λ s. s ++ b) e ∙ f

as_tree_none : (so : Bool) (v : Part) → Siteless v → as_tree so v ≡ []
as_tree_none true v c = found_none v c
as_tree_none false v c = refl

taken_none : (ws : List Way) (last : Way) (p : Part) → Siteless p → taken ws last p ≡ []
unfolding taken
taken_none ws last absent c = refl
taken_none ws last nil c = refl
taken_none ws last (more v vs) c =
    let w = first_way ws last in
    then (as_tree (is_tree w) v ++ taken (ways_in w v) (rest_in w) v) (taken (other_ways ws) last vs)
    (then (as_tree (is_tree w) v) (taken (ways_in w v) (rest_in w) v) (as_tree_none (is_tree w) v c.0)
    (taken_none (ways_in w v) (rest_in w) v c.0))
    (taken_none (other_ways ws) last vs c.1)
taken_none ws last (token n) c = refl
taken_none ws last (node label p s) c = refl

on_none : (w : Way) (v : Part) → Siteless v → on w v ≡ []
on_none w v c =
    then (as_tree (is_tree w) v) (taken (ways_in w v) (rest_in w) v) (as_tree_none (is_tree w) v c)
    (taken_none (ways_in w v) (rest_in w) v c)

module _ (x : List ℕ) (ts : List Token) where
  -- ---- the sites of a node
  names_none : (label : NodeKind) (p : Part) → names_module label ≡ false → names x ts label p ≡ []
  unfolding names
  names_none l.BareImport p e = absurd (let bad : ⊥ = cc in bad)
  names_none l.FromImport p e = absurd (let bad : ⊥ = cc in bad)
  names_none l.SourceImport p e = absurd (let bad : ⊥ = cc in bad)
  names_none l.DeferImport p e = absurd (let bad : ⊥ = cc in bad)
  names_none l.RequireImport p e = absurd (let bad : ⊥ = cc in bad)
  names_none l.ExportedRequireImport p e = absurd (let bad : ⊥ = cc in bad)
  names_none l.ExportAll p e = absurd (let bad : ⊥ = cc in bad)
  names_none l.ExportNames p e = absurd (let bad : ⊥ = cc in bad)
  names_none l.ImportCall p e = absurd (let bad : ⊥ = cc in bad)
  names_none l.SourceCall p e = absurd (let bad : ⊥ = cc in bad)
  names_none l.DeferCall p e = absurd (let bad : ⊥ = cc in bad)
  names_none _ p e = refl

  own_none : (label : NodeKind) (p : Part) → Siteless p → names_module label ≡ false → own x ts label p ≡ []
  own_none label p c e =
      own_is x ts label p
      ∙ then (names x ts label p) (taken (plan label p) Skip p) (names_none label p e)
      (taken_none (plan label p) Skip p c)

  -- ---- the sites of a tree
  all_parts : List Cst → Part
  all_parts us = packed (map (part_of x ts) us)

  is_more : Part → Bool
  is_more (more v vs) = true
  is_more _ = false

  by_found : (v : Part) → is_more v ≡ false → found v ≡ [] → Siteless v
  unfolding is_more
  by_found absent e f = tt
  by_found nil e f = tt
  by_found (more v vs) e f = absurd (let bad : ⊥ = cc in bad)
  by_found (token n) e f = tt
  by_found (node label p s) e f = f

  first_tree_none : (us : List Cst) → Siteless (all_parts us) → Siteless (part_of x ts (first_tree us))
  unfolding all_parts
  first_tree_none [] c = subst Siteless (sym (part_parts x ts [])) tt
  first_tree_none (u ∷ us) c = c.0

  lean_none : (lean : Lean) (from : ℕ) (us : List Kept) → Siteless (all_parts (trees_in us))
      → Siteless (part_of x ts (leant_tree lean from us))
  unfolding all_parts is_more
  lean_none lean from us c =
      by_found (part_of x ts (leant_tree lean from us)) (on_lean x ts is_more false lean refl (λ p s. refl) from us)
      (leant_sites x ts lean from us ∙ taken_none _ _ (packed (map (part_of x ts) (trees_in us))) c)

  tree_none : (w : What) (from to : ℕ) (us : List Kept) → may_name w ≡ false → Siteless (all_parts (trees_in us))
      → Siteless (part_of x ts (tree_by w from to us))
  unfolding all_parts
  tree_none vWhat.Leaf from to us e c = subst Siteless (sym (part_leaf x ts from)) tt
  tree_none (vWhat.Node label) from to us e c =
      subst Siteless (sym (part_node x ts label from to (trees_in us)))
      (own_none label (packed (map (part_of x ts) (trees_in us))) c e)
  tree_none (vWhat.Role label) from to us e c =
      subst Siteless (sym (part_role x ts label (first_tree (trees_in us))))
      (target_none (part_of x ts (first_tree (trees_in us))) (first_tree_none (trees_in us) c))
  tree_none vWhat.Parts from to us e c = subst Siteless (sym (part_parts x ts (trees_in us))) c
  tree_none (vWhat.Lean lean) from to us e c = lean_none lean from us c

  -- ---- the sites of entries
  kept_none : (n : ℕ) (es : List Entry) → any_may_name es ≡ false → Siteless (all_parts (trees_in (kept_by n es)))
  unfolding all_parts
  kept_none zero es e = tt
  kept_none (suc n) [] e = tt
  kept_none (suc n) (y ∷ es) e =
      let q = neither (may_name y.what) (any_may_name es) e in (
        tree_none y.what y.from y.to (kept_by n (take y.size es)) q.0
            (kept_none n (take y.size es) (any_take y.size es q.1)),
        kept_none n (drop y.size es) (any_drop y.size es q.1),
      )
    where
      any_take : (n : ℕ) (es : List Entry) → any_may_name es ≡ false → any_may_name (take n es) ≡ false
      any_take zero [] e = refl
      any_take zero (y ∷ es) e = refl
      any_take (suc n) [] e = refl
      any_take (suc n) (y ∷ es) e =
          let q = neither (may_name y.what) (any_may_name es) e in
          nor (may_name y.what) (any_may_name (take n es)) q.0 (any_take n es q.1)

      any_drop : (n : ℕ) (es : List Entry) → any_may_name es ≡ false → any_may_name (drop n es) ≡ false
      any_drop zero [] e = e
      any_drop zero (y ∷ es) e = e
      any_drop (suc n) [] e = refl
      any_drop (suc n) (y ∷ es) e = any_drop n es (neither (may_name y.what) (any_may_name es) e).1

  -- what stands there adds nothing
  pub item_none : (way : Way) (w : What) (from to : ℕ) (es : List Entry) → may_name w ≡ false → any_may_name es ≡ false
      → on way (part_of x ts (tree_by w from to (kept es))) ≡ []
  unfolding kept
  item_none way w from to es e f =
      on_none way (part_of x ts (tree_by w from to (kept_by (length es) es)))
      (tree_none w from to (kept_by (length es) es) e (kept_none (length es) es f))

  pub rest_none : (ws : List Way) (last : Way) (es : List Entry) → any_may_name es ≡ false
      → taken ws last (parts_of x ts es) ≡ []
  unfolding kept all_parts
  rest_none ws last es f =
      ap (taken ws last) (parts_kept x ts es)
      ∙ taken_none ws last (packed (map (part_of x ts) (trees_in (kept_by (length es) es))))
      (kept_none (length es) es f)
