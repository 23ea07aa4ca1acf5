-- A place in a module.
use Rattle.std.specs.Prelude.{ℕ, List}
use Rattle.base.specs.declared.range.Range.{Range}

pub record Place : Type 0 where
  pub specifier : List ℕ
  pub range : Range
