use Rattle.es_syntax.specs.Held.{held}
use Rattle.dts_member_keys.proofs.LookLemmas.{name_symbol, no_name}
use Rattle.dts_member_keys.proofs.symbols.named_symbol.Goals as goal

pub returns-in-Some : goal.returns-in-Some
returns-in-Some c = λ from r by knows.
    let x = c.args.env.now.text.now in
    let ts = c.args.env.now.tokens.now in
    name_symbol by x ts from r (held x ts c.args.parts.now.entries.now) c.in-Some.at c.is_unresolved.result
    (c.in-Some.ensures x ts) (c.is_unresolved.ensures by knows)

pub returns-in-None : goal.returns-in-None
returns-in-None c = λ from r by knows.
    let x = c.args.env.now.text.now in
    let ts = c.args.env.now.tokens.now in
    no_name by x ts from r (held x ts c.args.parts.now.entries.now) _ (c.in-None.ensures x ts)
