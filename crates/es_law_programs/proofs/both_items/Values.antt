-- What is read as a statement at a place is that statement as an item.
use Rattle.std.specs.Prelude.{Option, Some, None, option_map, map}
use Rattle.std.proofs.Common.{◌≡◌, ℕ, zero, suc, List, [], ◌∷◌, refl, sym, ap, subst, ◌∙◌}
use Rattle.es_token.specs.declared.token.Token.{Token}
use Rattle.es_ast.specs.declared.ast.Stmt.{Stmt}
use Rattle.es_ast.specs.declared.ast.ModuleDecl.{ModuleDecl}
use Rattle.es_ast.specs.declared.ast.ModuleItem.{ModuleItem}
use Rattle.es_ast.specs.declared.ast.ModuleItem.TheVariants as vItem
use Rattle.es_grammar.specs.declared.cst.tree.Cst.{Cst, roll-Cst, out-Cst, roll-out-Cst}
use Rattle.es_grammar.specs.declared.cst.tree.Cst.TheOpen.{Cst-F}
use Rattle.es_grammar.specs.declared.cst.tree.Cst.TheFolds.{fold-roll-Cst}
use Rattle.es_grammar.specs.declared.rows.NodeKind.{NodeKind}
use Rattle.es_lowering.specs.Value.{Value, absent, nil, more, token, node, given, typed, part, as_group, turns, item_at, stmt_at}
use Rattle.es_lowering.specs.Texts.{span_of}
use Rattle.es_lowering.specs.Lowering.{packed, build, as_target, item_by, module_decl_of, stmt_of, value_step, value_of}
use Rattle.es_law_programs.proofs.both_items.Labels.{no_decl}

module _ (x : List ℕ) (ts : List Token) where
  -- the parts in a row
  abbrev pub values : List Cst → Value
  values cs = packed (map (value_of x ts) cs)

  -- ---- one of them
  abbrev stmt_in : Value → Option Stmt
  stmt_in v = given (typed v) (λ m. m.stmt)

  abbrev item_in : Value → Option ModuleItem
  item_in v = given (typed v) (λ m. m.item)

  -- where it is a statement, it is that as an item
  abbrev Agree : Value → Type 0
  Agree v = (s : Stmt) → stmt_in v ≡ Some s → item_in v ≡ Some (vItem.Stmt s)

  agree_node : (label : NodeKind) (from to : ℕ) (v : Value)
      → Agree (node from to (build x ts label from (span_of ts from to) v))
  unfolding build
  agree_node label from to v s is =
      ap (λ (o : Option ModuleDecl). item_by x ts o (stmt_of x ts label (span_of ts from to) v))
      (no_decl x ts (span_of ts from to) v label (λ none. let bad : ⊥ = cc in bad))
      ∙ ap (option_map vItem.Stmt) is

  agree_target : (v : Value) → Agree (as_target x ts v)
  agree_target absent s is = cc
  agree_target nil s is = cc
  agree_target (more v vs) s is = cc
  agree_target (token n) s is = cc
  agree_target (node from to m) s is = cc

  agree_values : (cs : List Cst) → Agree (values cs)
  agree_values [] s is = cc
  agree_values (c ∷ cs) s is = cc

  agree_of : (w : Cst-F Cst) → Agree (value_of x ts (roll-Cst w))
  unfolding value_of
  agree_of (Cst-F.Leaf at) =
      subst Agree (sym (fold-roll-Cst Value (value_step x ts) (Cst-F.Leaf at))) (λ s is. cc)
  agree_of (Cst-F.Node label from to cs) =
      subst Agree (sym (fold-roll-Cst Value (value_step x ts) (Cst-F.Node label from to cs)))
      (agree_node label from to (values cs))
  agree_of (Cst-F.Role label c) =
      subst Agree (sym (fold-roll-Cst Value (value_step x ts) (Cst-F.Role label c))) (agree_target (value_of x ts c))
  agree_of (Cst-F.Parts cs) =
      subst Agree (sym (fold-roll-Cst Value (value_step x ts) (Cst-F.Parts cs))) (agree_values cs)

  agree : (c : Cst) → Agree (value_of x ts c)
  agree c = subst (λ (t : Cst). Agree (value_of x ts t)) (roll-out-Cst c) (agree_of (out-Cst c))

  -- ---- a group of them
  abbrev AreValues : Value → Type 0
  AreValues v = (cs : List Cst) × (v ≡ values cs)

  group_target : (v : Value) → as_group (as_target x ts v) ≡ nil
  group_target absent = refl
  group_target nil = refl
  group_target (more v vs) = refl
  group_target (token n) = refl
  group_target (node from to m) = refl

  group_values : (cs : List Cst) → as_group (values cs) ≡ values cs
  group_values [] = refl
  group_values (c ∷ cs) = refl

  group_of : (w : Cst-F Cst) → AreValues (as_group (value_of x ts (roll-Cst w)))
  unfolding value_of
  group_of (Cst-F.Leaf at) = ([], ap as_group (fold-roll-Cst Value (value_step x ts) (Cst-F.Leaf at)))
  group_of (Cst-F.Node label from to cs) =
      ([], ap as_group (fold-roll-Cst Value (value_step x ts) (Cst-F.Node label from to cs)))
  group_of (Cst-F.Role label c) =
      ([], ap as_group (fold-roll-Cst Value (value_step x ts) (Cst-F.Role label c)) ∙ group_target (value_of x ts c))
  group_of (Cst-F.Parts cs) =
      (cs, ap as_group (fold-roll-Cst Value (value_step x ts) (Cst-F.Parts cs)) ∙ group_values cs)

  group_in : (c : Cst) → AreValues (as_group (value_of x ts c))
  group_in c = subst (λ (t : Cst). AreValues (as_group (value_of x ts t))) (roll-out-Cst c) (group_of (out-Cst c))

  -- a part that is a group
  pub part_group : (cs : List Cst) (n : ℕ) → AreValues (as_group (part (values cs) n))
  part_group [] n = ([], refl)
  part_group (c ∷ cs) zero = group_in c
  part_group (c ∷ cs) (suc n) = part_group cs n

  -- what stands first in a turn
  agree_first : (cs : List Cst) → Agree (part (values cs) 0)
  agree_first [] s is = cc
  agree_first (c ∷ cs) s is = agree c s is

  agree_turn : (c : Cst) → Agree (part (as_group (value_of x ts c)) 0)
  agree_turn c =
      let group = group_in c in subst (λ (v : Value). Agree (part v 0)) (sym group.1) (agree_first group.0)

  -- ---- turns that are statements are these as items
  abbrev joined : {A : Type 0} → Option A → Option (List A) → Option (List A)
  joined o others = given o (λ a. given others (λ rest. Some (a ∷ rest)))

  abbrev pub Stmts : Value → Option (List Stmt)
  Stmts = turns (λ turn. stmt_at turn 0)

  abbrev pub Items : Value → Option (List ModuleItem)
  Items = turns (λ turn. item_at turn 0)

  join_same : (o : Option Stmt) (others : Option (List Stmt)) (item : Option ModuleItem)
      (items : Option (List ModuleItem)) (all : List Stmt)
      → ((s : Stmt) → o ≡ Some s → item ≡ Some (vItem.Stmt s))
      → ((ss : List Stmt) → others ≡ Some ss → items ≡ Some (map vItem.Stmt ss)) → joined o others ≡ Some all
      → joined item items ≡ Some (map vItem.Stmt all)
  join_same None others item items all one rest is = let bad : ⊥ = cc in absurd bad
  join_same (Some s) None item items all one rest is = let bad : ⊥ = cc in absurd bad
  join_same (Some s) (Some ss) item items all one rest is =
      rw (one s refl, rest ss refl) (ap (option_map (map vItem.Stmt)) is)

  pub items_of_stmts : (cs : List Cst) (all : List Stmt) → Stmts (values cs) ≡ Some all
      → Items (values cs) ≡ Some (map vItem.Stmt all)
  items_of_stmts [] all is = ap (option_map (map vItem.Stmt)) is
  items_of_stmts (c ∷ cs) all is =
      join_same (stmt_at (as_group (value_of x ts c)) 0) (Stmts (values cs)) (item_at (as_group (value_of x ts c)) 0)
      (Items (values cs)) all (agree_turn c) (items_of_stmts cs) is
