use Rattle.es_lowering.specs.Texts.{span_of}
use Rattle.es_syntax.specs.Held.{held}
use Rattle.es_syntax.specs.declared.entry.What.TheVariants as vWhat
use Rattle.std.proofs.Common.{ap, ◌∙◌}
use Rattle.dts_names.specs.Names.{Knows}
use Rattle.es_grammar.specs.declared.rows.NodeKind.{NodeKind}
use Rattle.dts_items.proofs.ProgramLemmas.{module_label, program_there, script_label}
use Rattle.dts_items.proofs.programs.program.Goals as goal

pub returns-in-Module-clause-written : goal.returns-in-Module-clause-written
returns-in-Module-clause-written c = λ e by listed.
    let x = c.args.env.now.text.now in
    let ts = c.args.env.now.tokens.now in
    program_there x ts by (Knows c.args.env.now) c.args.ranges.now listed.are c.args.out.now c.module.new.out
    c.args.it.now _ (c.in-Node.is ∙ ap (λ (label : NodeKind). vWhat.Node label) c.in-Module.is)
    (module_label x ts by (Knows c.args.env.now) c.args.ranges.now listed.are c.args.out.now c.module.new.out
    (span_of ts c.args.it.now.from c.args.it.now.to) (held x ts c.args.it.now.parts.entries.now)
    (c.module.ensures.written e by listed))

pub returns-in-Script-clause-written : goal.returns-in-Script-clause-written
returns-in-Script-clause-written c = λ e by listed.
    let x = c.args.env.now.text.now in
    let ts = c.args.env.now.tokens.now in
    program_there x ts by (Knows c.args.env.now) c.args.ranges.now listed.are c.args.out.now c.script.new.out
    c.args.it.now _ (c.in-Node.is ∙ ap (λ (label : NodeKind). vWhat.Node label) c.in-Script.is)
    (script_label x ts by (Knows c.args.env.now) c.args.ranges.now listed.are c.args.out.now c.script.new.out
    (span_of ts c.args.it.now.from c.args.it.now.to) (held x ts c.args.it.now.parts.entries.now)
    (c.script.ensures.written e by listed))
