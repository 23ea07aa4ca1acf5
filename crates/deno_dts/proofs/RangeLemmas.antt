-- The ranges of a program's bodies of overloads.
use Rattle.std.proofs.Common.{◌≡◌, subst, ℕ, List, Option, Some, IfSome}
use Rattle.base.specs.declared.range.Range.{Range}
use Rattle.es_token.specs.declared.token.Token.{Token}
use Rattle.es_ast.specs.declared.ast.Program.{Program}
use Rattle.es_syntax.specs.declared.entry.Entry.{Entry}
use Rattle.es_syntax.specs.Held.{held}
use Rattle.es_syntax.specs.Roles.{program_in}
use Rattle.es_lowering.specs.Value.{part}
use Rattle.es_program.specs.Typed.{program_at}
use Rattle.dts_rules.specs.Ranges.{has_range, overloads}
use Rattle.dts_overloads.specs.Overloads.{HasOverloads}

pub of_program : (x : List ℕ) (ts : List Token) (es : List Entry) (found : List Range) (p : Program)
    → program_at x ts es ≡ Some p → HasOverloads (program_in (part (held x ts es) 0)) found
    → (r : Range) → has_range found r ≡ has_range (overloads p) r
unfolding program_at
of_program x ts es found p is has =
    subst (λ (o : Option Program). IfSome o (λ q. (r : Range) → has_range found r ≡ has_range (overloads q) r)) is
    has.has
