use Rattle.std.proofs.Common.{◌∙◌, sym}
use Rattle.graph_entry.specs.Specifier.{text_of}
use Rattle.graph_builder.proofs.NumberLemmas.{absent, value_there}
use Rattle.graph_vendor.proofs.names.name_at.Goals as goal

pub returns-in-Some : goal.returns-in-Some
unfolding text_of
returns-in-Some c =
    c.value.ensures
    ∙ sym (value_there c.args.names.now (text_of c.args.specifier.now) c.in-Some.number (sym c.in-Some.ensures.value))

pub returns-in-None : goal.returns-in-None
unfolding text_of
returns-in-None c = sym (absent c.args.names.now (text_of c.args.specifier.now) (sym c.in-None.ensures.value))
