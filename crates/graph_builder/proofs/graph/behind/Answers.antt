use Rattle.std.proofs.Common.{◌∙◌, sym}
use Rattle.graph_builder.proofs.LinksLemmas.{redirect_end}
use Rattle.graph_entry.specs.Specifier.{text_of}
use Rattle.graph_builder.proofs.graph.behind.Goals as goal

pub end_of-requires-clause-end : goal.end_of-requires-clause-end
end_of-requires-clause-end c =
    redirect_end c.args.all.now (text_of c.args.at.specifier.now) c.in-Some.number c.args.target.now
    (sym c.in-Some.is ∙ c.requires.stop) c.requires.redirects
