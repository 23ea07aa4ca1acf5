-- What is met in the parts of nodes, on the way that the shapes of these parts lead.
use Rattle.std.specs.Prelude.{Bool, true, false, List, [], ◌∷◌, drop, Option, Some, if◌then◌else◌}
use Rattle.es_lowering.specs.Value.{given}
use Rattle.dts_overloads.specs.Among.{none, ◌∪◌, all_of, Among}
use Rattle.dts_overloads.specs.declared.shapes.Group.TheVariants as gr
use Rattle.dts_overloads.specs.declared.shapes.Shape.{Shape}
use Rattle.dts_overloads.specs.declared.shapes.Shape.TheVariants as sh
use Rattle.dts_overloads.specs.declared.ways.Mode.{Mode}
use Rattle.dts_overloads.specs.declared.ways.Mode.TheVariants as mode
use Rattle.dts_overloads.specs.Plan.{inner, shapes}

-- ranges, where all is there that they are of
abbrev pub Told : Type 0
Told = Option Among

-- some, and others after them
abbrev pub both : Told → Told → Told
both a b = given a (λ a. given b (λ b. Some (a ∪ b)))

-- the parts of a node, of a group and of a list
pub data Met : Type 0 where
  -- there is no such part
  absent : Met
  -- no more parts
  nil : Met
  -- a part, and those after it
  more : Met → Met → Met
  token : Met
  -- a node, by its ranges
  node : Told → Met

abbrev pub is_there : Met → Bool
is_there (more v vs) = true
is_there _ = false

-- there is one part alone
abbrev pub is_single : Met → Bool
is_single (more v nil) = true
is_single _ = false

abbrev pub is_token : Met → Bool
is_token token = true
is_token _ = false

-- it is no group
abbrev pub IsSpot : Met → Type 0
IsSpot (more v vs) = ⊥
IsSpot _ = Unit {0}

abbrev pub packed : List Met → Met
packed [] = nil
packed (v ∷ vs) = more v (packed vs)

-- a node in another role
abbrev pub as_target : Met → Met
as_target (node among) = node among
as_target _ = absent

-- ---- ways
pub data Way : Type 0 where
  -- past a part
  nothing : Way
  -- to the node that a part is
  one : Way
  -- to the node that a part is, or to parts of these shapes
  loose : List Shape → Way
  -- to parts of these shapes
  rows : List Shape → Way
  -- to turns, whose parts have these shapes
  each : List Shape → Way

-- into a part
abbrev pub into : Shape → Met → Way
into sh.Skip v = nothing
into sh.Node v = one
into (sh.In group) v = rows (inner group)
into (sh.Each group) v = each (inner group)
into (sh.Rest group) v = rows (inner group)
into (sh.Or group) v = rows (inner gr.First)
into (sh.Ended single others) v = rows (if is_single v then inner single else inner others)
into (sh.Loose group) v = loose (inner group)
into sh.Word v = nothing

-- on to the parts after it
abbrev pub after_part : Shape → List Shape → Met → Way
after_part (sh.Or group) shapes v = rows (if is_there v then inner group else shapes)
after_part (sh.Rest group) shapes v = each (inner group)
after_part sh.Word shapes v = if is_token v then nothing else rows shapes
after_part _ shapes v = rows shapes

abbrev pub inward : Way → Met → Way
inward (rows (shape ∷ shapes)) v = into shape v
inward (loose (shape ∷ shapes)) v = into shape v
inward (each shapes) v = rows shapes
inward _ v = nothing

abbrev pub onward : Way → Met → Way
onward (rows (shape ∷ shapes)) v = after_part shape shapes v
onward (loose (shape ∷ shapes)) v = after_part shape shapes v
onward (each shapes) v = each shapes
onward _ v = nothing

-- a way leads to a node
abbrev pub reaches : Way → Bool
reaches one = true
reaches (loose shapes) = true
reaches _ = false

-- what is met on a way
abbrev pub met : Met → Way → Told
met (more v vs) way = both (met v (inward way v)) (met vs (onward way v))
met (node among) way = if reaches way then among else Some none
met _ way = Some none

-- the way that code keeps
abbrev pub way_of : Mode → Way
way_of mode.Nothing = nothing
way_of mode.One = one
way_of (mode.Loose group) = loose (inner group)
way_of (mode.Row owner at) = rows (drop at (shapes owner))
way_of (mode.Each group) = each (inner group)
