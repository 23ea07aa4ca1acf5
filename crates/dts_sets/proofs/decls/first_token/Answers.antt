use Rattle.std.specs.Prelude.{slice_get}
use Rattle.es_syntax.specs.Held.{held, valued}
use Rattle.dts_sets.proofs.Heads.{adds_own_first}
use Rattle.dts_sets.proofs.decls.first_token.Goals as goal

-- the token that is first
pub returns-in-Some-token-clause-adds : goal.returns-in-Some-token-clause-adds
returns-in-Some-token-clause-adds c = λ e number numbered.
    let x = c.args.text.now in
    let ts = c.args.tokens.now in
    adds_own_first x ts number c.args.flags (held x ts c.args.row.now.entries.now) (valued x ts c.in-Some.first)
    (held x ts c.in-Some.field-0-1.entries.now) (slice_get ts c.in-Some-token.token) c.args.out.now
    c.token-in-Some-token.new.self (c.in-Some.ensures.value x ts) (c.in-Some-token.ensures x ts)
    (c.token-in-Some-token.ensures.adds e number numbered)
