-- How places of a text move when other literals are put in the places of some of its own, and what stands there then.
use Rattle.std.specs.Prelude.{ℕ, List, Option, Some, None}
use Rattle.base.specs.declared.range.Range.{Range}

pub record Move : Type 0 where
  -- where a place of the old text stands in the new one; starts and ends move alike
  pub place : ℕ → ℕ
  -- the literal that stands newly in the place of the one that had this range
  pub other : Range → Option (List ℕ)

unfoldable pub range_to : Move → Range → Range
range_to m r = record { start = m.place r.start; end = m.place r.end }

-- what is told of the new literal, where there is one, else what was told of the old one
abbrev pub put_by : {A : Type 0} → (List ℕ → A) → Option (List ℕ) → A → A
put_by f (Some t) old = f t
put_by f None old = old

-- the text of the new literal, or the old one
abbrev pub put : Option (List ℕ) → List ℕ → List ℕ
put (Some t) old = t
put None old = old
