-- What the ranges of bodies of overloads are.
use Rattle.std.specs.Prelude.{◌≡◌, List, Option, IfSome}
use Rattle.base.specs.declared.range.Range.{Range}
use Rattle.es_ast.specs.declared.ast.Program.{Program}
use Rattle.dts_rules.specs.Ranges.{has_range, overloads}

-- where the program is there, these are the ranges of its bodies of overloads, in any order
pub record HasOverloads (part : Option Program) (found : List Range) : Type 0 where
  pub has : IfSome part (λ program. (r : Range) → has_range found r ≡ has_range (overloads program) r)
