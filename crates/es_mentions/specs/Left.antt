-- What is left to do during a walk, what it adds, and a bound on the steps that it takes.
use Rattle.std.specs.Prelude.{ℕ, ◌+◌, ◌*◌, Bool, List, [], ◌∷◌, ◌++◌, length, filter_map, option_to_list, if◌then◌else◌}
use Rattle.std.specs.List.{flat_map}
use Rattle.es_token.specs.declared.token.Token.{Token}
use Rattle.es_grammar.specs.declared.cst.tree.Cst.{Cst}
use Rattle.es_syntax.specs.Trees.{first_tree, trees}
use Rattle.es_walk.specs.Rows.{group_of}
use Rattle.es_walk.specs.Left.{cost}
use Rattle.es_mentions.specs.declared.listed.Event.{Event}
use Rattle.es_mentions.specs.declared.nodes.Todo.{Todo}
use Rattle.es_mentions.specs.declared.nodes.Todo.TheVariants as todo
use Rattle.es_mentions.specs.declared.nodes.Frame.{Frame}
use Rattle.es_mentions.specs.Nodes.{Node, nodes}
use Rattle.es_mentions.specs.Kinds.{event_of, is_closed}

module _ (x : List ℕ) (ts : List Token) (script strict : Bool) where
  -- what the nodes of a tree are
  unfoldable pub events_in : Cst → List Event
  events_in tree = filter_map (event_of x ts script strict) (nodes (is_closed x ts) tree)

  -- of trees in a row
  abbrev pub events_of : List Cst → List Event
  events_of us = flat_map events_in us

  -- of a node, and of what stands in it
  abbrev pub node_events : Node → List Event
  node_events n =
      option_to_list (event_of x ts script strict n) ++ (if is_closed x ts n then [] else events_of n.parts)

  -- of turns: of the parts of each
  abbrev pub events_of_turns : List Cst → List Event
  events_of_turns us = flat_map (λ u. events_of (group_of u)) us

  -- of nodes that lean left: a first operand, and turns; fewer are no node
  abbrev pub events_of_lean : List Cst → List Event
  events_of_lean (first ∷ turn ∷ turns) = events_in first ++ events_of_turns (turn ∷ turns)
  events_of_lean _ = []

  abbrev pub todo_events : Todo → List Cst → List Event
  todo_events todo.Rest us = events_of us
  todo_events todo.First us = events_in (first_tree us)
  todo_events todo.Turns us = events_of_turns us

  abbrev pub frame_events : Frame → List Event
  frame_events f = todo_events f.todo (trees f.parts.entries.now)

  -- at all levels, the innermost last
  unfoldable pub ahead : List Frame → List Event
  ahead [] = []
  ahead (f ∷ fs) = ahead fs ++ frame_events f

-- ---- how many steps
abbrev pub frame_weight : Frame → ℕ
frame_weight f = 2 * cost (length f.parts.entries.now)

unfoldable pub weight : List Frame → ℕ
weight [] = 0
weight (f ∷ fs) = frame_weight f + weight fs
