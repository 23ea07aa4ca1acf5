use Rattle.std.proofs.Common.{sym, subst, ap}
use Rattle.es_lowering.specs.Value.{Value}
use Rattle.es_syntax.specs.Roles.{program_in}
use Rattle.dts_draft.proofs.There.{same}
use Rattle.dts_rules.specs.Programs.{with_sets, declared}
use Rattle.dts_module_sets.specs.Items.{program_sets}
use Rattle.dts_names.specs.Names.{Knows}
use Rattle.dts_parts.specs.Params.{Made}
use Rattle.dts_items.proofs.programs.declared_program.Goals as goal

pub returns-in-Some-clause-written : goal.returns-in-Some-clause-written
returns-in-Some-clause-written c = λ e by listed.
    let x = c.args.env.now.text.now in
    let ts = c.args.env.now.tokens.now in
    same (λ program. Knows c.args.env.now (with_sets by (program_sets by.number program))
    → Made x ts program_in (declared by) c.args.out.now c.program.new.out program) _ _
    (ap program_in (c.in-Some.ensures.value x ts)) (c.program.ensures.written e by listed)
