-- What a node is: listed, or gone at run time, and whether what it holds is passed over (ECMA-262, "Import Calls", "Meta
-- Properties", "The with Statement"; the handbook of TypeScript).
use Rattle.std.specs.Prelude.{ℕ, ◌-◌, Bool, true, false, not, ◌&&◌, ◌||◌, if◌then◌else◌, List, Option, Some, None, option_map, codes}
use Rattle.base.specs.declared.range.Range.{Range}
use Rattle.es_token.specs.declared.token.Token.{Token}
use Rattle.es_token.specs.declared.token.TokenKind.TheVariants as k
use Rattle.es_grammar.specs.declared.rows.NodeKind.{NodeKind}
use Rattle.es_grammar.specs.declared.rows.NodeKind.TheVariants as l
use Rattle.es_grammar.specs.declared.cst.tree.Cst.{Cst}
use Rattle.es_walk.specs.declared.step.Path.{Path}
use Rattle.es_walk.specs.declared.step.Path.TheVariants as path
use Rattle.es_walk.specs.Rows.{follow_trees, group_there}
use Rattle.es_walk.specs.Looks.{number_there, node_there, has_one}
use Rattle.es_variables.specs.scope_analysis.Events.{is_kind}
use Rattle.es_mentions.specs.declared.listed.Reason.{Reason}
use Rattle.es_mentions.specs.declared.listed.Reason.TheVariants as reason
use Rattle.es_mentions.specs.declared.listed.Event.{Event}
use Rattle.es_mentions.specs.declared.listed.Event.TheVariants as event
use Rattle.es_mentions.specs.Nodes.{Node}
use Rattle.es_mentions.specs.Words.{is_spelled, is_risky, range_of, range_at}

-- the alternative and the parts of a node
abbrev pub Seen : Type 0
Seen = NodeKind × List Cst

-- the node, the token and the group at a place among parts
abbrev pub node_in : List Cst → Path → Option Seen
node_in us at = node_there (follow_trees us at)

abbrev pub token_in : List Cst → Path → Option ℕ
token_in us at = number_there (follow_trees us at)

abbrev pub has_parts : List Cst → Path → Bool
has_parts us at = has_one (group_there (follow_trees us at))

-- ---- nodes by their alternatives
abbrev pub is_str : NodeKind → Bool
is_str l.Str = true
is_str _ = false

abbrev pub is_meta : NodeKind → Bool
is_meta l.ImportMeta = true
is_meta _ = false

abbrev pub is_script : NodeKind → Bool
is_script l.Script = true
is_script _ = false

abbrev pub seen_so : (NodeKind → Bool) → Option Seen → Bool
seen_so test (Some n) = test n.0
seen_so test None = false

abbrev pub is_seen : Option Seen → Bool
is_seen (Some n) = true
is_seen None = false

-- ---- imports whose first argument is no string literal alone
abbrev pub import_reason : List Cst → Option Reason
import_reason us = if seen_so is_str (node_in us (path.At 0)) then None else Some reason.Import

-- why a node is listed, whether more is asked or not
abbrev pub usual_by : NodeKind → List Cst → Option Reason
usual_by l.ImportCall us = import_reason us
usual_by l.SourceCall us = import_reason us
usual_by l.DeferCall us = import_reason us
usual_by l.ImportMeta us = Some reason.Meta
usual_by l.WithStatement us = Some reason.With
usual_by _ us = None

abbrev pub or_else : Option Reason → Option Reason → Option Reason
or_else (Some why) other = Some why
or_else None other = other

-- ---- what is gone at run time: what says something of types alone; exported names, since each must be declared
abbrev pub is_gone_by : NodeKind → List Cst → Bool
is_gone_by l.EntityOfType us = true
is_gone_by l.AssertsResult us = true
is_gone_by l.PredicateResult us = true
is_gone_by l.InterfaceDeclaration us = true
is_gone_by l.AliasDeclaration us = true
is_gone_by l.Declared us = true
is_gone_by l.DeclaredVariables us = true
is_gone_by l.ModuleDeclaration us = true
is_gone_by l.GlobalDeclaration us = true
is_gone_by l.ExportNames us = true
-- functions without a body
is_gone_by l.TypedFunction us = not (is_seen (node_in us (path.In 3 0)))
is_gone_by l.TypedAsyncFunction us = not (is_seen (node_in us (path.In 3 0)))
-- imports with `type`
is_gone_by l.FromImport us = has_parts us (path.At 0)
is_gone_by l.ImportedName us = has_parts us (path.At 0)
is_gone_by l.RenamedImport us = has_parts us (path.At 0)
is_gone_by l.RequireImport us = has_parts us (path.At 0)
is_gone_by l.EntityImport us = has_parts us (path.At 0)
is_gone_by l.ExportedRequireImport us = has_parts us (path.At 0)
is_gone_by l.ExportedEntityImport us = has_parts us (path.At 0)
is_gone_by _ us = false

abbrev pub is_gone : Node → Bool
is_gone n = is_gone_by n.label n.parts

-- the first name of an entity
abbrev pub first_name_by : NodeKind → List Cst → Option ℕ
first_name_by l.Entity us = token_in us (path.At 0)
first_name_by _ us = None

abbrev pub first_name : Option Seen → Option ℕ
first_name (Some n) = first_name_by n.0 n.1
first_name None = None

-- a namespace of types leaves nothing, so the name of none counts
abbrev pub namespace_by : NodeKind → List Cst → Option ℕ
namespace_by l.NamespaceDeclaration us = first_name (node_in us (path.At 1))
namespace_by _ us = None

-- the first and the last token of what is gone
abbrev pub gone_of : Node → Option (ℕ × ℕ)
gone_of n =
    if is_gone n then Some (n.from, n.to - 1) else option_map (λ at. (at, at)) (namespace_by n.label n.parts)

module _ (x : List ℕ) (ts : List Token) where
  -- ---- new URL("a", import.meta.url)
  -- a name, and a member, that is this word
  abbrev pub is_name_by : List ℕ → NodeKind → List Cst → Bool
  is_name_by word l.Name us = is_spelled x ts word (token_in us (path.At 0))
  is_name_by word _ us = false

  abbrev pub is_name : List ℕ → Option Seen → Bool
  is_name word (Some n) = is_name_by word n.0 n.1
  is_name word None = false

  abbrev pub is_member_by : List ℕ → NodeKind → List Cst → Bool
  is_member_by word l.MemberPost us = is_spelled x ts word (token_in us (path.At 0))
  is_member_by word _ us = false

  abbrev pub is_member : List ℕ → Option Seen → Bool
  is_member word (Some n) = is_member_by word n.0 n.1
  is_member word None = false

  -- import.meta.url
  abbrev pub is_own_url_by : NodeKind → List Cst → Bool
  is_own_url_by l.Chain us =
      seen_so is_meta (node_in us (path.At 0)) && is_member (codes "url") (node_in us (path.At 1))
      && not (has_parts us (path.At 2))
  is_own_url_by _ us = false

  abbrev pub is_own_url : Option Seen → Bool
  is_own_url (Some n) = is_own_url_by n.0 n.1
  is_own_url None = false

  -- ("a", import.meta.url)
  abbrev pub are_located_by : NodeKind → List Cst → Bool
  are_located_by l.Arguments us =
      seen_so is_str (node_in us (path.Deep 0 0 1)) && is_own_url (node_in us (path.Deep 0 1 1))
      && not (has_parts us (path.In 0 2))
  are_located_by _ us = false

  abbrev pub are_located : Option Seen → Bool
  are_located (Some n) = are_located_by n.0 n.1
  are_located None = false

  abbrev pub is_address_by : NodeKind → List Cst → Bool
  is_address_by l.New us =
      is_name (codes "URL") (node_in us (path.At 0)) && are_located (node_in us (path.In 1 0))
  is_address_by l.TypedNew us =
      is_name (codes "URL") (node_in us (path.At 0)) && are_located (node_in us (path.In 2 0))
  is_address_by _ us = false

  -- what a node holds is passed over where it is gone, and in such an address
  abbrev pub is_closed : Node → Bool
  is_closed n = is_gone n || is_address_by n.label n.parts

  -- ---- what is listed if more is asked
  abbrev pub member_reason : Option ℕ → Option Reason
  member_reason at = if is_risky x ts at then Some reason.Member else None

  -- the key of a computed member: a literal alone isn't listed, but for such a word
  abbrev pub key_by : NodeKind → List Cst → Option Reason
  key_by l.Str us = member_reason (token_in us (path.At 0))
  key_by l.Number us = None
  key_by _ us = Some reason.Key

  abbrev pub key_reason : Option Seen → Option Reason
  key_reason (Some n) = key_by n.0 n.1
  key_reason None = Some reason.Key

  -- the key of a pattern
  abbrev pub pattern_by : NodeKind → List Cst → Option Reason
  pattern_by l.WordKey us = member_reason (token_in us (path.At 0))
  pattern_by l.StrKey us = member_reason (token_in us (path.At 0))
  pattern_by l.ComputedKey us = key_reason (node_in us (path.At 0))
  pattern_by _ us = None

  abbrev pub pattern_reason : Option Seen → Option Reason
  pattern_reason (Some n) = pattern_by n.0 n.1
  pattern_reason None = None

  -- `?.a` and `?.(a)` are groups of their own, `?.[a]` is none
  abbrev pub optional_reason : List Cst → Option Reason
  optional_reason us =
      if has_parts us (path.In 0 0) then member_reason (token_in us (path.Deep 0 0 0))
      else key_reason (node_in us (path.In 0 0))

  module _ (script : Bool) where
    -- in a script it may be the global object
    abbrev pub this_reason : Option ℕ → Option Reason
    this_reason at = if script && is_kind ts k.ThisWord at then Some reason.This else None

    abbrev pub strict_by : NodeKind → List Cst → Option Reason
    strict_by l.MemberPost us = member_reason (token_in us (path.At 0))
    strict_by l.NameProperty us = member_reason (token_in us (path.At 0))
    strict_by l.IndexPost us = key_reason (node_in us (path.At 0))
    strict_by l.OptionalPost us = optional_reason us
    strict_by l.TypedOptionalPost us = optional_reason us
    strict_by l.KeyPattern us = pattern_reason (node_in us (path.At 0))
    strict_by l.Word us = this_reason (token_in us (path.At 0))
    strict_by _ us = None

    -- ---- why a node is listed, where it is
    module _ (strict : Bool) where
      abbrev pub more_by : NodeKind → List Cst → Option Reason
      more_by label us = if strict then strict_by label us else None

      abbrev pub reason_by : NodeKind → List Cst → Option Reason
      reason_by label us = or_else (usual_by label us) (more_by label us)

      -- the node, or of `with` its word
      abbrev pub range_by : Reason → Node → Range
      range_by reason.With n = range_at ts n.from
      range_by _ n = range_of ts n.from n.to

      abbrev pub listed_as : Node → Option Reason → Option Event
      listed_as n (Some why) = Some (event.Listed (record { reason = why; range = range_by why n }))
      listed_as n None = None

      abbrev pub event_by : Node → Option (ℕ × ℕ) → Option Event
      event_by n (Some g) = Some (event.Gone g.0 g.1)
      event_by n None = listed_as n (reason_by n.label n.parts)

      -- what a node is, where it is anything
      abbrev pub event_of : Node → Option Event
      event_of n = event_by n (gone_of n)
