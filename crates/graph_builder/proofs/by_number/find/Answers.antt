use Rattle.std.proofs.Common.{◌∙◌, sym}
use Rattle.graph_entry.specs.Specifier.{text_of}
use Rattle.graph_builder.proofs.NumberLemmas.{absent, value_there}
use Rattle.graph_builder.proofs.by_number.find.Goals as goal

pub returns-in-Some : goal.returns-in-Some
returns-in-Some g c =
    c.value.ensures
    ∙ sym (value_there c.args.all.now (text_of c.args.url.now) c.in-Some.number (sym c.in-Some.ensures.value))

pub returns-in-None : goal.returns-in-None
returns-in-None g c = sym (absent c.args.all.now (text_of c.args.url.now) (sym c.in-None.ensures.value))
