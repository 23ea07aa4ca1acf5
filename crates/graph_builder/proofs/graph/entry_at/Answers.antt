use Rattle.std.proofs.Common.{◌∙◌, sym}
use Rattle.graph_entry.specs.Specifier.{text_of}
use Rattle.graph_builder.proofs.NumberLemmas.{absent, value_there}
use Rattle.graph_builder.proofs.graph.entry_at.Goals as goal

pub returns-in-Some : goal.returns-in-Some
returns-in-Some c =
    c.value.ensures
    ∙ sym (value_there c.args.all.now (text_of c.args.at.specifier.now) c.in-Some.number
    (sym (sym c.in-Some.is ∙ c.requires)))

pub returns-in-None : goal.returns-in-None
returns-in-None c =
    sym (absent c.args.all.now (text_of c.args.at.specifier.now) (sym (sym c.in-None.is ∙ c.requires)))
