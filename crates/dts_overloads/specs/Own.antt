-- What is met in a kept tree: the bodies of overloads in the lists of a node, and those in its parts.
use Rattle.std.specs.Prelude.{ℕ, List, [], ◌∷◌, map, Option, Some, None, option_map}
use Rattle.es_token.specs.declared.token.Token.{Token}
use Rattle.es_grammar.specs.declared.rows.NodeKind.{NodeKind}
use Rattle.es_grammar.specs.declared.rows.NodeKind.TheVariants as l
use Rattle.es_grammar.specs.declared.cst.tree.Cst.{Cst}
use Rattle.es_grammar.specs.declared.cst.tree.Cst.TheOpen.{Cst-F}
use Rattle.es_grammar.specs.declared.cst.tree.Cst.TheFolds.{para-Cst}
use Rattle.es_lowering.specs.Value.{Value, group, turns, stmt_at, item_at, member_at}
use Rattle.es_lowering.specs.Lowering.{value_of}
use Rattle.es_lowering.specs.Lowering as low
use Rattle.es_syntax.specs.declared.entry.Entry.{Entry}
use Rattle.es_syntax.specs.declared.cursor.Siblings.{Siblings}
use Rattle.es_syntax.specs.declared.cursor.Item.{Item}
use Rattle.es_syntax.specs.Trees.{trees}
use Rattle.es_walk.specs.Rows.{tree_at}
use Rattle.dts_overloads.specs.declared.lists.Act.{Act}
use Rattle.dts_overloads.specs.declared.lists.Act.TheVariants as act
use Rattle.dts_overloads.specs.Among.{all_of, own_stmts, own_items, own_members}
use Rattle.dts_overloads.specs.Plan.{plan}
use Rattle.dts_overloads.specs.Met.{Told, both, Met, nil, more, token, node, packed, as_target, rows, met}

-- ---- the lists of a node, by its parts
abbrev pub stmts_told : Value → Told
stmts_told v = option_map own_stmts (turns (λ turn. stmt_at turn 0) v)

abbrev pub items_told : Value → Told
items_told v = option_map own_items (turns (λ turn. item_at turn 0) v)

abbrev pub members_told : Value → Told
members_told v = option_map own_members (turns (λ turn. member_at turn 0) v)

abbrev pub cases_told : Value → Told
cases_told v = option_map (all_of own_stmts) (turns (λ turn. turns (λ turn. stmt_at turn 0) (group turn 1)) v)

abbrev pub told_of : Act → Value → Told
told_of (act.Stmts at) p = stmts_told (group p at)
told_of (act.Items at) p = items_told (group p at)
told_of act.Inner p = items_told (group (group p 1) 0)
told_of (act.Members at) p = members_told (group p at)
told_of act.Cases p = cases_told (group p 1)

-- where the lists of the nodes of an alternative are
abbrev pub act_of : NodeKind → Option Act
act_of l.Module = Some (act.Items 1)
act_of l.Script = Some (act.Stmts 1)
act_of l.Block = Some (act.Stmts 0)
act_of l.SwitchStatement = Some act.Cases
act_of l.Class = Some (act.Members 2)
act_of l.TypedClass = Some (act.Members 4)
act_of l.AbstractClass = Some (act.Members 4)
act_of l.NamespaceDeclaration = Some (act.Items 2)
act_of l.ModuleDeclaration = Some act.Inner
act_of l.GlobalDeclaration = Some (act.Items 0)
act_of _ = None

abbrev pub own_by : Option Act → NodeKind → Value → Met → Told
own_by None label p q = met q (rows (plan label))
own_by (Some act) label p q = both (told_of act p) (met q (rows (plan label)))

-- the ranges in a node, by its alternative and its parts
abbrev pub own : NodeKind → Value → Met → Told
own label p q = own_by (act_of label) label p q

-- ---- trees
module _ (x : List ℕ) (ts : List Token) where
  abbrev pub Both : Type 0
  Both = Cst × Met

  abbrev pub values : List Both → Value
  values parts = low.packed (map (λ part. value_of x ts part.0) parts)

  abbrev pub all_met : List Both → Met
  all_met parts = packed (map (λ part. part.1) parts)

  abbrev pub met_step : Cst-F Both → Met
  met_step (Cst-F.Leaf at) = token
  met_step (Cst-F.Node label from to parts) = node (own label (values parts) (all_met parts))
  met_step (Cst-F.Role label part) = as_target part.1
  met_step (Cst-F.Parts parts) = all_met parts

  unfoldable pub met_of : Cst → Met
  met_of = para-Cst Met met_step

  -- ---- rows of entries
  unfoldable pub row_met : List Entry → Met
  row_met es = packed (map met_of (trees es))

  abbrev pub item_met : Item → Met
  item_met item = met_of (tree_at item)

  abbrev pub split_met : Option (Item × Siblings) → Met
  split_met (Some p) = more (item_met p.0) (row_met p.1.entries.now)
  split_met None = nil
