-- What a program mentions, in the order of the text: names that no scope of it declares and that aren't allowed, `import(..)`
-- of no literal, `import.meta`, `with`; and more, if it is asked.
use Rattle.std.specs.Prelude.{ℕ, ◌==◌, nat_le, nat_lt, Bool, true, false, not, ◌&&◌, if◌then◌else◌, List, [], ◌∷◌, ◌++◌, Option, Some, None, filter, filter_map}
use Rattle.std.specs.List.{list_any}
use Rattle.es_token.specs.declared.token.Token.{Token}
use Rattle.es_grammar.specs.declared.cst.tree.Cst.{Cst}
use Rattle.es_walk.specs.Looks.{node_of}
use Rattle.es_scopes.specs.declared.steps.Mark.{Mark}
use Rattle.es_scopes.specs.declared.steps.Mark.TheVariants as mark
use Rattle.es_scopes.specs.Marks.{body_marks}
use Rattle.es_scopes.specs.Numbers.{ids_in}
use Rattle.es_mentions.specs.declared.listed.Reason.TheVariants as reason
use Rattle.es_mentions.specs.declared.listed.Mention.{Mention}
use Rattle.es_mentions.specs.declared.listed.Event.{Event}
use Rattle.es_mentions.specs.declared.listed.Event.TheVariants as event
use Rattle.es_mentions.specs.Nodes.{nodes}
use Rattle.es_mentions.specs.Words.{is_allowed, range_at}
use Rattle.es_mentions.specs.Kinds.{seen_so, is_script, is_closed, event_of}

-- ---- names that are left at run time
abbrev pub is_gone_in : Event → ℕ → Bool
is_gone_in (event.Gone from last) n = nat_le from n && nat_le n last
is_gone_in (event.Listed it) n = false

-- the token is gone
abbrev pub is_gone_token : List Event → ℕ → Bool
is_gone_token events n = list_any (λ e. is_gone_in e n) events

abbrev pub lives : List Event → Mark → Bool
lives events (mark.Name place token) = not (is_gone_token events token)
lives events (mark.Open hoists) = true
lives events mark.Close = true

-- the scopes, and the names that are left
abbrev pub living : List Event → List Mark → List Mark
living events found = filter (lives events) found

-- ---- the order
-- a name, after the others that start before it
abbrev pub early : ℕ → List Mention → List Mention
early at [] = []
early at (m ∷ ms) = if nat_lt m.range.start at then m ∷ early at ms else []

abbrev pub late : ℕ → List Mention → List Mention
late at [] = []
late at (m ∷ ms) = if nat_lt m.range.start at then late at ms else m ∷ ms

abbrev pub merged : List Mention → List Mention → List Mention
merged [] others = others
merged (name ∷ names) others =
    early name.range.start others ++ name ∷ merged names (late name.range.start others)

-- ---- what is listed of nodes
abbrev pub listed_in : Event → Option Mention
listed_in (event.Listed it) = Some it
listed_in (event.Gone from last) = None

abbrev pub listed_nodes : List Event → List Mention
listed_nodes events = filter_map listed_in events

-- the tree is a script
abbrev pub is_script_tree : Cst → Bool
is_script_tree tree = seen_so is_script (node_of tree)

module _ (x : List ℕ) (ts : List Token) where
  module _ (strict : Bool) where
    -- what the nodes of the program are
    abbrev pub events : Cst → List Event
    events tree = filter_map (event_of x ts (is_script_tree tree) strict) (nodes (is_closed x ts) tree)

    unfoldable pub others : Cst → List Mention
    others tree = listed_nodes (events tree)

  module _ (allowed : List (List ℕ)) where
    -- a name, with its number, that no scope declares and that isn't allowed
    abbrev pub name_mention : Bool → ℕ × ℕ → Option Mention
    name_mention script id =
        if (id.1 == 0) && not (is_allowed x ts allowed script id.0)
        then Some (record { reason = reason.Name; range = range_at ts id.0 }) else None

    abbrev pub names_in : Bool → List Event → List Mark → List Mention
    names_in script found seen = filter_map (name_mention script) (ids_in x ts (living found seen))

    module _ (strict : Bool) where
      unfoldable pub names : Cst → List Mention
      names tree = names_in (is_script_tree tree) (events strict tree) (body_marks ts tree)

      -- all of them
      unfoldable pub mentions : Cst → List Mention
      mentions tree = merged (names tree) (others strict tree)
