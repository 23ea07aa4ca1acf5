use Rattle.std.proofs.Common.{◌∙◌, sym, ap}
use Rattle.std.specs.Option.{option_copied}
use Rattle.graph_vendor.specs.Names.{names_in}
use Rattle.graph_vendor.proofs.RefusedLemmas.{is_referrer}
use Rattle.graph_vendor.proofs.plan.outcome_of.Goals as goal

-- the first place outside that imports from the graph
pub returns-in_ok-clone-in-Some : goal.returns-in_ok-clone-in-Some
returns-in_ok-clone-in-Some g c =
    is_referrer (g.M.ModuleAnalyzer.reads c.args.analyzer.now) c.args.graph.now
    (names_in c.args.base.now c.args.graph.now.entries) c.referrer_imports.result.now c.in-Some.first.now
    c.in_ok-clone-in-Some.field-0 c.referrer_imports.ensures
    (sym (ap option_copied c.in-Some.is) ∙ c.first.ensures.value) c.in_ok-clone-in-Some.ensures.cases
