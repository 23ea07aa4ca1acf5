use Rattle.std.proofs.Common.{ℕ, List, subst}
use Rattle.graph_c.specs.Mentions.{HasMentions, told}
use Rattle.graph_c.proofs.mentions.answer_mentions.Goals as goal

-- what was told of the source's finding
pub returns-in-Ok-tell_mentions : goal.returns-in-Ok-tell_mentions
returns-in-Ok-tell_mentions c =
    let found = c.in-Ok-mentions_found.finding in
    told c.in-Ok.names c.in-Ok.ensures found
    (subst (λ (names : List (List ℕ)). HasMentions names c.args.strict c.args.media_type c.args.text.now found)
    c.as_slice.ensures c.in-Ok-mentions_found.ensures)
    c.in-Ok-tell_mentions.ensures.told
