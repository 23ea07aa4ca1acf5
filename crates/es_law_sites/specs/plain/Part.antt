-- What the parts of a plain tree are on the way to its sites, and how they are read from the parts of a node.
use Rattle.std.specs.Prelude.{ℕ, zero, suc, Bool, true, false, List, [], ◌∷◌, ◌++◌}
use Rattle.es_grammar.specs.declared.rows.NodeKind.{NodeKind}
use Rattle.es_grammar.specs.declared.rows.NodeKind.TheVariants as l
use Rattle.es_site.specs.Sites.{Found}

pub data Part : Type 0 where
  -- there is no such part
  absent : Part
  -- no more parts of a node, of a group or of a list
  nil : Part
  -- a part, and those after it
  more : Part → Part → Part
  -- a token, by its number
  token : ℕ → Part
  -- a node: its alternative, its parts, and the sites in it
  node : NodeKind → Part → Found → Part

-- a part, counted from 0
abbrev pub part : Part → ℕ → Part
part (more v vs) zero = v
part (more v vs) (suc n) = part vs n
part _ n = absent

-- a part that holds parts
abbrev pub as_group : Part → Part
as_group (more v vs) = more v vs
as_group _ = nil

abbrev pub group : Part → ℕ → Part
group p n = as_group (part p n)

abbrev pub is_there : Part → Bool
is_there (more v vs) = true
is_there _ = false

-- ---- sites
abbrev pub found : Part → Found
found (node label p sites) = sites
found _ = []

-- those of the part at a place
abbrev pub at : Part → ℕ → Found
at p n = found (part p n)

-- those of what stands at a place of a part that may be absent
abbrev pub inside : (Part → Found) → Part → Found
inside one (more v vs) = one (more v vs)
inside one _ = []

abbrev pub may : Part → ℕ → Found
may p n = inside (λ g. at g 0) (group p n)

-- those of the turns of a list
abbrev pub each : (Part → Found) → Part → Found
each one (more v vs) = one (as_group v) ++ each one vs
each one _ = []

-- those of the part at a place of each turn
abbrev pub turns : Part → ℕ → ℕ → Found
turns p n m = each (λ turn. at turn m) (group p n)

-- ---- what trees become
abbrev pub packed : List Part → Part
packed [] = nil
packed (v ∷ vs) = more v (packed vs)

-- a simple target of an assignment: it names no module, whatever it is
abbrev pub as_target : Part → Part
as_target (node label p sites) = node l.Target p sites
as_target v = absent
