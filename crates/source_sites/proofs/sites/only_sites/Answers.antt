use Rattle.std.proofs.Common.{[]}
use Rattle.std.proofs.lemmas.Result.{IfOk-weaker}
use Rattle.source_reading.proofs.TreeLemmas.{is_first}
use Rattle.source_sites.proofs.SitesLemmas.{AreOf-weaker, only_given}
use Rattle.source_sites.proofs.sites.only_sites.Goals as goal

pub returns-clause-made : goal.returns-clause-made
returns-clause-made c =
    IfOk-weaker c.mode_sites.result _ _
    (λ found of. AreOf-weaker _ _
    (λ tree is. is_first c.args.lang c.args.text.now c.args.tokens.now c.args.mode [] tree is) found of)
    c.mode_sites.ensures.made

pub returns-clause-only : goal.returns-clause-only
returns-clause-only c = λ tree is.
    only_given c.args.lang c.args.text.now c.args.tokens.now c.args.mode c.mode_sites.result tree
    c.mode_sites.ensures.only is
