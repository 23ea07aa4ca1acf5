use Rattle.std.proofs.Common.{sym}
use Rattle.graph_entry.specs.Specifier.{text_of}
use Rattle.graph_builder.proofs.LinksLemmas.{link_true, number_true}
use Rattle.graph_builder.proofs.links.number_of_end.Goals as goal

-- the link is right, and no specifier has two numbers
pub returns-in-Some : goal.returns-in-Some
returns-in-Some c =
    sym (number_true c.args.all.now c.in-Some.number (text_of c.args.target.now) c.count-count.ensures.once
    (link_true c.args.all.now c.args.links.now c.args.entry c.args.edge c.in-Some.number (text_of c.args.target.now)
    c.requires.linked c.in-Some.ensures c.requires.end))
