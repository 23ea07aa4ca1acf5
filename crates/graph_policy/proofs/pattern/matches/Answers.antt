use Rattle.std.proofs.Common.{◌∙◌, sym, ap, ◌++◌}
use Rattle.graph_policy.proofs.PatternLemmas.{front_there, front_lacks}
use Rattle.graph_policy.proofs.pattern.matches.Goals as goal

-- what precedes the first `*` is the front of the text
pub returns-in-Some-strip_prefix : goal.returns-in-Some-strip_prefix
returns-in-Some-strip_prefix c =
    let h = c.in-Some-strip_prefix.ensures.cases in
    c.end_matches.ensures ∙ front_there c.args.pattern.now c.in-Some.front.now c.in-Some.rest.now c.args.text.now
    c.in-Some-strip_prefix.behind.now c.in-Some.ensures.0 c.in-Some.ensures.1
    (h.1.1 ∙ ap (λ l. c.in-Some.front.now ++ l) (sym h.2))

pub returns-in-None-strip_prefix : goal.returns-in-None-strip_prefix
returns-in-None-strip_prefix c =
    front_lacks c.args.pattern.now c.in-Some.front.now c.in-Some.rest.now c.args.text.now c.in-Some.ensures.0
    c.in-Some.ensures.1 c.in-None-strip_prefix.ensures.cases
