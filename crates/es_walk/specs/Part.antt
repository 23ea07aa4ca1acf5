-- What the parts of a kept tree are, and how they are read from the parts of a node; `X` is what a node is.
use Rattle.std.specs.Prelude.{ℕ, zero, suc, Bool, true, false, if◌then◌else◌, List, [], ◌∷◌, Option, Some, None}
use Rattle.es_grammar.specs.declared.rows.NodeKind.{NodeKind}
use Rattle.es_grammar.specs.declared.rows.NodeKind.TheVariants as l
use Rattle.es_walk.specs.declared.step.Path.{Path}
use Rattle.es_walk.specs.declared.step.Path.TheVariants as path

pub data Part (X : Type 0) : Type 0 where
  -- there is no such part
  absent : Part X
  -- no more parts of a node, of a group or of a list
  nil : Part X
  -- a part, and those after it
  more : Part X → Part X → Part X
  -- a token, by its number
  token : ℕ → Part X
  -- a node: its alternative, its parts, and what it is
  node : NodeKind → Part X → X → Part X

abbrev pub is_plain : NodeKind → Bool
is_plain l.Binary = false
is_plain l.TypedBinary = false
is_plain l.Target = false
is_plain _ = true

module _ {X : Type 0} where
  -- a part, counted from 0
  abbrev pub part : Part X → ℕ → Part X
  part (more v vs) zero = v
  part (more v vs) (suc n) = part vs n
  part _ n = absent

  -- a part that holds parts
  abbrev pub as_group : Part X → Part X
  as_group (more v vs) = more v vs
  as_group _ = nil

  abbrev pub group : Part X → ℕ → Part X
  group p n = as_group (part p n)

  abbrev pub follow : Part X → Path → Part X
  follow p (path.At n) = part p n
  follow p (path.In n m) = part (group p n) m
  follow p (path.Deep n m j) = part (group (group p n) m) j
  follow p (path.Deeper n m j i) = part (group (group (group p n) m) j) i

  -- the number of the token that a part is
  abbrev pub number_in : Part X → Option ℕ
  number_in (token n) = Some n
  number_in _ = None

  abbrev pub is_there : Part X → Bool
  is_there (more v vs) = true
  is_there _ = false

  -- there is more than one part
  abbrev pub has_second : Part X → Bool
  has_second (more v (more w vs)) = true
  has_second _ = false

  -- what stands there, or first in the group that it is
  abbrev pub own_in : Part X → Part X
  own_in (more v vs) = v
  own_in v = v

  -- parts in a row
  abbrev pub packed : List (Part X) → Part X
  packed [] = nil
  packed (v ∷ vs) = more v (packed vs)

  -- a node in another role is met as it is, and is of no alternative but that role
  abbrev pub as_target : Part X → Part X
  as_target (node label p x) = node l.Target p x
  as_target _ = absent

  -- the alternative and the parts of a node, but not of a chain or of a node in another role
  abbrev pub node_in : Part X → Option (NodeKind × Part X)
  node_in (node label p x) = if is_plain label then Some (label, p) else None
  node_in _ = None
