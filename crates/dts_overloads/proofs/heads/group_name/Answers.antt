use Rattle.es_syntax.specs.Held.{held}
use Rattle.dts_overloads.proofs.HeadLemmas.{group_named}
use Rattle.dts_overloads.proofs.heads.group_name.Goals as goal

pub returns-in_ok-word-in-Some-token_at : goal.returns-in_ok-word-in-Some-token_at
returns-in_ok-word-in-Some-token_at c =
    let x = c.args.text.now in
    let ts = c.args.tokens.now in
    group_named x ts (held x ts c.args.group.now.entries.now) _ _ c.in-Some-token_at.at
    c.in_ok-word-in-Some-token_at.field-0 (c.in-Some.ensures.value x ts) (c.in-Some-token_at.ensures x ts)
    c.in_ok-word-in-Some-token_at.ensures
