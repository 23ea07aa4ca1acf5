use Rattle.std.proofs.Common.{◌∙◌, sym, ap, ◌++◌}
use Rattle.graph_policy.proofs.PatternLemmas.{first_found, none_found}
use Rattle.graph_policy.proofs.pattern.after_first.Goals as goal

-- the first place is where all that may follow is left
pub returns-in-Some : goal.returns-in-Some
returns-in-Some c =
    let h = c.in-Some.ensures.cases in
    first_found c.args.front.now c.in-Some.behind.now c.args.text.now h.0
    (h.2.1.split ∙ ap (λ l. c.args.front.now ++ l) (sym h.4)) h.2.0

pub returns-in-None : goal.returns-in-None
returns-in-None c = none_found c.args.front.now c.args.text.now c.in-None.ensures.cases
