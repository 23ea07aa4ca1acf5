use Rattle.std.proofs.Common.{◌∙◌, Some, None}
use Rattle.graph_builder.proofs.SettlingLemmas.{unfit_found}
use Rattle.graph_builder.proofs.settle.unfit_at.Goals as goal

pub returns-in-Some : goal.returns-in-Some
returns-in-Some c =
    c.refusal.ensures
    ∙ unfit_found c.args.following.json_without_attribute c.args.firsts.now c.args.edge.now
    c.end_of-end.result.specifier.now c.in-Ok.target (Some c.in-Some.found.now) c.in-Some.ensures
    c.end_of-end.ensures.specifier c.in-Ok.is

pub returns-in-None : goal.returns-in-None
returns-in-None c =
    unfit_found c.args.following.json_without_attribute c.args.firsts.now c.args.edge.now
    c.end_of-end.result.specifier.now c.in-Ok.target None
    c.in-None.ensures c.end_of-end.ensures.specifier c.in-Ok.is
