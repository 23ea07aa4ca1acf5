-- What a plain tree becomes is fine, where each string literal among the tokens is cut.
use Rattle.std.specs.Prelude.{List, [], ◌∷◌, Option, Some, None, option_map, map, slice_get, true}
use Rattle.std.proofs.Common.{◌≡◌, ℕ, zero, suc, refl, sym, subst}
use Rattle.es_token.specs.declared.token.Token.{Token}
use Rattle.es_token.specs.declared.token.TokenKind.TheVariants as k
use denote.Enum.Bare.{same_true}
use Rattle.grammar_theory.specs.Key.{seen, keys_of, is}
use Rattle.grammar_theory.specs.Plain.{Plain, node, leaf, nil, cons, mark, turn, via, made}
use Rattle.es_grammar.specs.declared.rows.NodeKind.{NodeKind}
use Rattle.es_grammar.specs.contracts.rows.NodeKind.{the_type}
use Rattle.es_grammar.specs.declared.rows.NodeKind.TheVariants as l
use Rattle.es_grammar.specs.declared.cst.tree.Cst.{Cst}
use Rattle.es_grammar.specs.declared.cst.tree.Cst.TheVariants as vCst
use Rattle.es_grammar.specs.cst.Slim.{parts_in, slim, tree_of}
use Rattle.es_law_sites.proofs.shapes.FormedLemmas.{IsList, Formed}
use Rattle.es_law_sites.proofs.literal_places.Places.{StrPart, MayBeStr, StrGroup, Names}
use Rattle.es_lowering.specs.Value.{Value, as_group, group, optional}
use Rattle.es_lowering.specs.Value.{absent as no_part, nil as no_more, more, token, node as made_node}
use Rattle.es_lowering.specs.Texts.{span_of, str_of, token_of, str_at}
use Rattle.es_lowering.specs.Lowering.{same_label, packed, build, as_target, value_of}
use Rattle.es_lowering.proofs.Equations.{value_leaf, value_node, value_role, value_parts}
use Rattle.es_law_sites.proofs.ranges.Cuts.{Opt, StrCuts}
use Rattle.es_law_sites.proofs.ranges.Fine.{Fine, map_fine}
use Rattle.es_law_sites.proofs.ranges.Build.{SourcesCut, build_fine, as_target_fine}

-- the parts that are kept
abbrev parts_of : Plain NodeKind → List Cst
parts_of p = parts_in (made slim p)

module _ (x : List ℕ) (ts : List Token)
    (strs : (n : ℕ) (t : Token) → slice_get ts n ≡ Some t → is k.Str (seen (keys_of ts) n) ≡ true
    → StrCuts x (str_of x t)) where
  -- what parts become
  abbrev values : Plain NodeKind → Value
  values p = packed (map (value_of x ts) (parts_of p))

  fine_moved : (v w : Value) → v ≡ w → Fine x w → Fine x v
  fine_moved v w e fine = let P : Value → Type 0 = λ u. Fine x u in subst P (sym e) fine

  -- what is kept of parts is a group
  grouped : (p : Plain NodeKind) → IsList p → Formed (Names (keys_of ts)) p → value_of x ts (tree_of p) ≡ values p
  unfolding made
  grouped (node label from to ps) list formed = absurd list
  grouped (leaf s n) list formed = absurd list
  grouped nil list formed = value_parts x ts []
  grouped (cons p ps) list formed = value_parts x ts (tree_of p ∷ parts_of ps)
  grouped (mark n ps) list formed = grouped ps formed.0 formed.1
  grouped (turn p ps) list formed = value_parts x ts (tree_of p ∷ parts_of ps)
  grouped (via w p) list formed = absurd list

  -- ---- string literals
  token_cuts : (n : ℕ) (t : Option Token) → slice_get ts n ≡ t → is k.Str (seen (keys_of ts) n) ≡ true
      → Opt (StrCuts x) (option_map (str_of x) t)
  token_cuts n (Some t) there e = strs n t there e
  token_cuts n None there e = tt

  leaf_cuts : (n : ℕ) (v : Value) → v ≡ token n → is k.Str (seen (keys_of ts) n) ≡ true
      → Opt (StrCuts x) (option_map (str_of x) (token_of ts v))
  leaf_cuts n v same e =
      let P : Value → Type 0 = λ u. Opt (StrCuts x) (option_map (str_of x) (token_of ts u)) in
      subst P (sym same) (token_cuts n (slice_get ts n) refl e)

  part_cuts : (p : Plain NodeKind) (n : ℕ) → StrPart (keys_of ts) p n → Opt (StrCuts x) (str_at x ts (values p) n)
  unfolding made
  part_cuts (cons (leaf s at) ps) zero there = leaf_cuts at (value_of x ts (vCst.Leaf at)) (value_leaf x ts at) there
  part_cuts (cons (node label from to qs) ps) zero there = absurd there
  part_cuts (cons nil ps) zero there = absurd there
  part_cuts (cons (cons q qs) ps) zero there = absurd there
  part_cuts (cons (mark at q) ps) zero there = absurd there
  part_cuts (cons (turn q qs) ps) zero there = absurd there
  part_cuts (cons (via w q) ps) zero there = absurd there
  part_cuts (cons p ps) (suc n) there = part_cuts ps n there
  part_cuts (mark at ps) n there = part_cuts ps n there
  part_cuts (node label from to ps) n there = absurd there
  part_cuts (leaf s at) n there = absurd there
  part_cuts nil n there = absurd there
  part_cuts (turn p ps) n there = absurd there
  part_cuts (via w p) n there = absurd there

  group_of : (v : Value) → Opt (StrCuts x) (str_at x ts v 0)
      → Opt (Opt (StrCuts x)) (optional (str_at x ts) (as_group v))
  group_of (more v vs) f = map_fine (StrCuts x) (Opt (StrCuts x)) (str_at x ts (more v vs) 0) Some f (λ s h. h)
  group_of no_part f = tt
  group_of no_more f = tt
  group_of (token n) f = tt
  group_of (made_node from to m) f = tt

  listed_cuts : (p : Plain NodeKind) → IsList p → Formed (Names (keys_of ts)) p → StrPart (keys_of ts) p 0
      → Opt (Opt (StrCuts x)) (optional (str_at x ts) (as_group (value_of x ts (tree_of p))))
  listed_cuts p list formed there =
      let P : Value → Type 0 = λ u. Opt (Opt (StrCuts x)) (optional (str_at x ts) (as_group u)) in
      subst P (sym (grouped p list formed)) (group_of (values p) (part_cuts p 0 there))

  may_cuts : (p : Plain NodeKind) → Formed (Names (keys_of ts)) p → MayBeStr (keys_of ts) p
      → Opt (Opt (StrCuts x)) (optional (str_at x ts) (as_group (value_of x ts (tree_of p))))
  unfolding made
  may_cuts nil formed there =
      let P : Value → Type 0 = λ u. Opt (Opt (StrCuts x)) (optional (str_at x ts) (as_group u)) in
      subst P (sym (value_parts x ts [])) tt
  may_cuts (cons p ps) formed there = listed_cuts (cons p ps) tt formed there
  may_cuts (mark at ps) formed there = listed_cuts (mark at ps) tt formed there
  may_cuts (node label from to ps) formed there = absurd there
  may_cuts (leaf s at) formed there = absurd there
  may_cuts (turn p ps) formed there = absurd there
  may_cuts (via w p) formed there = absurd there

  group_cuts : (p : Plain NodeKind) (n : ℕ) → Formed (Names (keys_of ts)) p → StrGroup (keys_of ts) p n
      → Opt (Opt (StrCuts x)) (optional (str_at x ts) (group (values p) n))
  unfolding made
  group_cuts (cons p ps) zero formed there = may_cuts p formed.0 there
  group_cuts (cons p ps) (suc n) formed there = group_cuts ps n formed.2 there
  group_cuts (mark at ps) n formed there = group_cuts ps n formed.1 there
  group_cuts (node label from to ps) n formed there = absurd there
  group_cuts (leaf s at) n formed there = absurd there
  group_cuts nil n formed there = absurd there
  group_cuts (turn p ps) n formed there = absurd there
  group_cuts (via w p) n formed there = absurd there

  -- the literals of a node
  names_at : (label other : NodeKind) (ps : Plain NodeKind) → same_label label other ≡ true
      → Names (keys_of ts) label ps
      → Names (keys_of ts) other ps
  names_at label other ps e names =
      let P : NodeKind → Type 0 = λ a. Names (keys_of ts) a ps in subst P (same_true the_type tt label other e) names

  sources : (label : NodeKind) (ps : Plain NodeKind) → Names (keys_of ts) label ps → Formed (Names (keys_of ts)) ps
      → SourcesCut x ts label (values ps)
  sources label ps names formed = record {
    bare_import = λ e. part_cuts ps 0 (names_at label l.BareImport ps e names);
    from_import = λ e. part_cuts ps 2 (names_at label l.FromImport ps e names);
    source_import = λ e. part_cuts ps 1 (names_at label l.SourceImport ps e names);
    defer_import = λ e. part_cuts ps 1 (names_at label l.DeferImport ps e names);
    require_import = λ e. part_cuts ps 2 (names_at label l.RequireImport ps e names);
    exported_require_import = λ e. part_cuts ps 2 (names_at label l.ExportedRequireImport ps e names);
    export_all = λ e. part_cuts ps 2 (names_at label l.ExportAll ps e names);
    export_names = λ e. group_cuts ps 2 formed (names_at label l.ExportNames ps e names);
    str = λ e. part_cuts ps 0 (names_at label l.Str ps e names);
    str_key = λ e. part_cuts ps 0 (names_at label l.StrKey ps e names);
  }

  -- ---- whole trees
  KeptFine : Plain NodeKind → Type 0
  KeptFine p = Fine x (value_of x ts (tree_of p)) × (IsList p → Fine x (values p))

  of_list : (p : Plain NodeKind) → IsList p → Formed (Names (keys_of ts)) p → Fine x (values p) → KeptFine p
  unfolding KeptFine
  of_list p list formed fine =
      (fine_moved (value_of x ts (tree_of p)) (values p) (grouped p list formed) fine, λ here. fine)

  kept_fine : (p : Plain NodeKind) → Formed (Names (keys_of ts)) p → KeptFine p
  unfolding made KeptFine
  kept_fine (node label from to ps) formed = (
    fine_moved (value_of x ts (vCst.Node label from to (parts_of ps)))
        (made_node from to (build x ts label from (span_of ts from to) (values ps)))
        (value_node x ts label from to (parts_of ps))
        (build_fine x ts label from (span_of ts from to) (values ps) ((kept_fine ps formed.2).1 formed.0)
        (sources label ps formed.1 formed.2)),
    λ list. absurd list,
  )
  kept_fine (leaf s n) formed =
      (fine_moved (value_of x ts (vCst.Leaf n)) (token n) (value_leaf x ts n) tt, λ list. absurd list)
  kept_fine nil formed = of_list nil tt formed tt
  kept_fine (cons p ps) formed =
      of_list (cons p ps) tt formed ((kept_fine p formed.0).0, (kept_fine ps formed.2).1 formed.1)
  kept_fine (mark n ps) formed = of_list (mark n ps) tt formed ((kept_fine ps formed.1).1 formed.0)
  kept_fine (turn p ps) formed =
      of_list (turn p ps) tt formed ((kept_fine p formed.0).0, (kept_fine ps formed.2).1 formed.1)
  kept_fine (via w p) formed = (
    fine_moved (value_of x ts (vCst.Role w (tree_of p))) (as_target x ts (value_of x ts (tree_of p)))
        (value_role x ts w (tree_of p)) (as_target_fine x ts (value_of x ts (tree_of p)) (kept_fine p formed).0),
    λ list. absurd list,
  )

  -- the tree that is kept of one is fine
  pub tree_fine : (p : Plain NodeKind) → Formed (Names (keys_of ts)) p → Fine x (value_of x ts (tree_of p))
  unfolding KeptFine
  tree_fine p formed = (kept_fine p formed).0
