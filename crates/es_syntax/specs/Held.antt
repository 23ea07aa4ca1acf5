-- What a row of entries holds: the parts of a node, as values.
use Rattle.std.specs.Prelude.{ℕ, zero, suc, List, [], ◌∷◌, length, take, drop, slice_get, Option, Some, None, map}
use Rattle.es_token.specs.declared.token.Token.{Token}
use Rattle.es_grammar.specs.declared.rows.NodeKind.{NodeKind}
use Rattle.es_grammar.specs.declared.rows.NodeKind.TheVariants as l
use Rattle.es_lowering.specs.Value.{Value, absent, nil, more, token, node, part, as_group}
use Rattle.es_lowering.specs.Texts.{span_of}
use Rattle.es_lowering.specs.Lowering.{packed, build, as_target}
use Rattle.es_syntax.specs.declared.entry.Lean.{Lean}
use Rattle.es_syntax.specs.declared.entry.Lean.TheVariants as vLean
use Rattle.es_syntax.specs.declared.entry.What.{What}
use Rattle.es_syntax.specs.declared.entry.What.TheVariants as vWhat
use Rattle.es_syntax.specs.declared.entry.Entry.{Entry}
use Rattle.es_syntax.specs.declared.cursor.Siblings.{Siblings}
use Rattle.es_syntax.specs.declared.cursor.Item.{Item}

-- the alternative of nodes that lean left
abbrev pub label_of : Lean → NodeKind
label_of vLean.Binary = l.Binary
label_of vLean.TypedBinary = l.TypedBinary

-- a part: the token behind its last one, and what it is
abbrev pub Held : Type 0
Held = ℕ × Value

module _ (x : List ℕ) (ts : List Token) where
  -- a node of this alternative, over its parts
  abbrev pub node_of : NodeKind → ℕ → ℕ → Value → Value
  node_of label from to p = node from to (build x ts label from (span_of ts from to) p)

  -- what stands before a turn, as a node with that turn
  abbrev pub leaning : Lean → ℕ → Value → Held → Value
  leaning lean from v turn = node_of (label_of lean) from turn.0 (more v (as_group turn.1))

  -- with all of these, from the left
  unfoldable pub leaned : Lean → ℕ → Value → List Held → Value
  leaned lean from v [] = v
  leaned lean from v (turn ∷ turns) = leaned lean from (leaning lean from v turn) turns

  -- a first operand and turns, one at least
  abbrev pub leant : Lean → ℕ → List Held → Value
  leant lean from (first ∷ turn ∷ turns) = leaned lean from (leaning lean from first.1 turn) turns
  leant lean from _ = nil

  -- what stands at a place, from what its parts are
  abbrev pub made : What → ℕ → ℕ → Value → List Held → Value
  made vWhat.Leaf from to p ps = token from
  made (vWhat.Node label) from to p ps = node_of label from to p
  made (vWhat.Role label) from to p ps = as_target x ts (part p 0)
  made vWhat.Parts from to p ps = p
  made (vWhat.Lean lean) from to p ps = leant lean from ps

  -- parts in a row, as the parts of a node
  abbrev pub row_of : List Held → Value
  row_of ps = packed (map (λ p. p.1) ps)

  -- what the entries hold, by at most so many steps
  abbrev pub read : ℕ → List Entry → List Held
  read zero es = []
  read (suc n) [] = []
  read (suc n) (e ∷ es) =
      (e.to, made e.what e.from e.to (row_of (read n (take e.size es))) (read n (take e.size es)))
      ∷ read n (drop e.size es)

  -- the parts that the entries are
  unfoldable pub parts_of : List Entry → List Held
  parts_of es = read (length es) es

  -- what the entries hold: these as the parts of a node
  unfoldable pub held : List Entry → Value
  held es = row_of (parts_of es)

  -- what a cursor stands at
  abbrev pub valued : Item → Value
  valued i = made i.what i.from i.to (held i.parts.entries.now) (parts_of i.parts.entries.now)

  -- the first part and those behind it
  abbrev pub first_in : Option (Item × Siblings) → Value
  first_in None = nil
  first_in (Some p) = more (valued p.0) (held p.1.entries.now)

  -- the same with the token behind each
  abbrev pub first_of_parts : Option (Item × Siblings) → List Held
  first_of_parts None = []
  first_of_parts (Some p) = (p.0.to, valued p.0) ∷ parts_of p.1.entries.now

  -- what a part is, where it is there
  abbrev pub there : Option Item → Value
  there (Some i) = valued i
  there None = absent

-- a token, by its number
abbrev pub token_there : List Token → Option ℕ → Option Token
token_there ts (Some n) = slice_get ts n
token_there ts None = None
