-- The bodies of overloads, as a list of their ranges.
use Rattle.std.specs.Prelude.{◌≡◌, List}
use Rattle.base.specs.declared.range.Range.{Range}
use Rattle.dts_rules.specs.Rules as rules
use Rattle.dts_rules.specs.Ranges.{has_range}

-- the rules go by these: what has one of these ranges is the body of overloads
pub record Overloads (ranges : List Range) (by : rules.Env) : Type 0 where
  pub are : (r : Range) → by.implements r ≡ has_range ranges r
