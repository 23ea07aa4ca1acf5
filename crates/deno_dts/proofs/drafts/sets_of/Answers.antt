use Rattle.std.proofs.Common.{ap}
use Rattle.es_syntax.specs.Roles.{program_in}
use Rattle.es_syntax.specs.Held.{valued}
use Rattle.deno_dts.proofs.DraftLemmas.{sets_there}
use Rattle.deno_dts.proofs.drafts.sets_of.Goals as goal

pub returns-else-known : goal.returns-else-known
returns-else-known c = λ number numbered.
    sets_there c.module_sets-known.result number
    (program_in (valued c.args.text.now c.args.tokens.now c.in-Some.first)) _
    (ap program_in (c.in-Some.ensures.value c.args.text.now c.args.tokens.now))
    (c.module_sets-known.ensures c.if-known.false number numbered)
