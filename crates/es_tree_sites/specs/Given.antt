-- Attributes, by the alternative of a node and over the turns of a list.
use Rattle.std.specs.Prelude.{ℕ, Bool, true, false, List, Option, Some, None, codes, if◌then◌else◌}
use Rattle.es_token.specs.declared.token.Token.{Token}
use Rattle.es_ast.specs.declared.ts.leaf.Str.{Str}
use Rattle.es_grammar.specs.declared.rows.NodeKind.{NodeKind}
use Rattle.es_grammar.specs.declared.rows.NodeKind.TheVariants as l
use Rattle.es_site.specs.declared.site.Attribute.{Attribute}
use Rattle.es_site.specs.declared.site.Attribute.TheVariants.{Absent}
use Rattle.es_site.specs.Attributes.{named}
use Rattle.es_law_sites.specs.plain.Part.{Part, part, as_group, group}
use Rattle.es_law_sites.specs.plain.Own.{token_in, str_in, spelt, last_type, is_word_key, same_word, same_str, key_says, is_plain, given_in}

-- a word or a string as a key
abbrev pub is_word_label : NodeKind → Bool
is_word_label l.WordKey = true
is_word_label l.StrKey = true
is_word_label _ = false

module _ (x : List ℕ) (ts : List Token) where
  -- ---- a node by its alternative
  abbrev pub clause_by : NodeKind → Part → Attribute
  clause_by l.Attributes p = named (last_type x ts None (group p 0))
  clause_by _ p = Absent

  abbrev pub key_by : List ℕ → NodeKind → Part → Bool
  key_by word l.WordKey p = same_word x ts word (token_in x ts (part p 0))
  key_by word l.StrKey p = same_str x ts word (str_in x ts (part p 0))
  key_by word _ p = false

  abbrev pub plain_by : NodeKind → Part → Bool
  plain_by l.KeyValue p = is_word_key x ts (part p 0)
  plain_by _ p = false

  abbrev pub given_by : List ℕ → NodeKind → Part → Option Part → Option Part
  given_by word l.KeyValue p last = if key_says x ts word (part p 0) then Some (part p 1) else last
  given_by word _ p last = last

  -- ---- a turn of a list, by what stands there
  unfoldable pub type_turn : Option Str → Part → Option Str
  type_turn last turn =
      if spelt x ts (codes "type") (token_in x ts (part (group (as_group turn) 0) 0))
      then str_in x ts (part (as_group turn) 1)
      else last

  unfoldable pub plain_turn : Part → Bool
  plain_turn turn = is_plain x ts (part (as_group turn) 0)

  unfoldable pub given_turn : List ℕ → Option Part → Part → Option Part
  given_turn word last turn = given_in x ts word (part (as_group turn) 0) last
