use Rattle.std.proofs.Common.{refl}
use Rattle.es_syntax.specs.Held.{held}
use Rattle.dts_operands.proofs.SourceLemmas.{anything, cast_there}
use Rattle.dts_operands.proofs.sources.cast.Goals as goal

pub returns-in-Some : goal.returns-in-Some
returns-in-Some c = λ by x ts r e.
    cast_there by x ts _ (held x ts c.args.before.now.entries.now) _ r e (c.in-Some.ensures.value x ts)
    (λ kind s d. c.asserted.ensures by x ts r kind e e s d)

pub returns-in-None : goal.returns-in-None
returns-in-None c = λ by x ts r e. anything by x ts e _
