-- What a changed row holds: the parts of a node, as values. What may stand so in the row of a program is what it is there.
use Rattle.std.specs.Prelude.{ℕ, zero, suc, List, [], ◌∷◌, length, take, drop, Option, Some, None}
use Rattle.es_token.specs.declared.token.Token.{Token}
use Rattle.es_ast.specs.declared.ts.ts.TsType.{TsType}
use Rattle.es_lowering.specs.Value.{Value, nil, more, node}
use Rattle.es_syntax.specs.Held.{Held, made, row_of}
use Rattle.es_changed.specs.declared.entry.Change.{Change}
use Rattle.es_changed.specs.declared.entry.Change.TheVariants as change
use Rattle.es_changed.specs.declared.entry.ChangedEntry.{ChangedEntry}
use Rattle.es_changed.specs.declared.cursor.ChangedSiblings.{ChangedSiblings}
use Rattle.es_changed.specs.declared.cursor.ChangedItem.{ChangedItem}
use Rattle.es_changed.specs.Formed.{a_type, word_type, formed}

-- a node that is a type
abbrev pub type_node : ℕ → ℕ → Option TsType → Value
type_node from to ty = node from to (a_type ty)

-- a part, where it is one, before others
abbrev pub with_part : Change → Held → List Held → List Held
with_part change.Gone p ps = ps
with_part _ p ps = p ∷ ps

-- the same with the parts of a node
abbrev pub before_others : Change → Value → Value → Value
before_others change.Gone v vs = vs
before_others _ v vs = more v vs

module _ (x : List ℕ) (ts : List Token) where
  -- what stands at a place, from what its parts are
  abbrev pub changed : Change → ℕ → ℕ → Value → List Held → Value
  changed (change.Old what) from to p ps = made x ts what from to p ps
  changed (change.Form f) from to p ps = formed x ts f from to p
  changed (change.Word w) from to p ps = type_node from to (Some (word_type w))
  changed change.Gone from to p ps = nil

  -- what the entries hold, by at most so many steps
  abbrev pub read : ℕ → List ChangedEntry → List Held
  read zero es = []
  read (suc n) [] = []
  read (suc n) (e ∷ es) =
      with_part e.change
      (e.to, changed e.change e.from e.to (row_of x ts (read n (take e.size es))) (read n (take e.size es)))
      (read n (drop e.size es))

  -- the parts that the entries are
  unfoldable pub parts_in : List ChangedEntry → List Held
  parts_in es = read (length es) es

  -- what the entries hold: these as the parts of a node
  unfoldable pub held_in : List ChangedEntry → Value
  held_in es = row_of x ts (parts_in es)

  -- what a cursor stands at
  abbrev pub valued_in : ChangedItem → Value
  valued_in i = changed i.change i.from i.to (held_in i.parts.entries.now) (parts_in i.parts.entries.now)

  -- what stands first, and what stands behind it
  abbrev pub first_in : Option (ChangedItem × ChangedSiblings) → Value
  first_in None = nil
  first_in (Some p) = before_others p.0.change (valued_in p.0) (held_in p.1.entries.now)
