use Rattle.std.specs.Prelude.{Some, None, slice_get}
use Rattle.std.proofs.Common.{refl}
use Rattle.es_lookahead.proofs.TokenLemmas.{joins_first, joins_by, joins_then, joins_else}
use Rattle.es_lookahead.proofs.tokens.Tokens.joins.Goals as goal

pub returns-then-at-eq0 : goal.returns-then-at-eq0
returns-then-at-eq0 c = joins_first c.args.kind c.args.self.now.tokens.now c.args.at c.if-at-eq0.true

pub returns-in-None : goal.returns-in-None
returns-in-None c =
    joins_by c.args.kind c.args.self.now.tokens.now c.args.at None (slice_get c.args.self.now.tokens.now c.args.at)
    c.if-at-eq0.false c.in-None.ensures refl

pub returns-in-None-token : goal.returns-in-None-token
returns-in-None-token c =
    joins_by c.args.kind c.args.self.now.tokens.now c.args.at (Some c.in-Some.token) None
    c.if-at-eq0.false c.in-Some.ensures c.in-None-token.ensures

pub returns-then-eq : goal.returns-then-eq
returns-then-eq c =
    rw (c.range.ensures, c.range-then-eq.ensures)
    (joins_then c.args.kind c.args.self.now.tokens.now c.args.at c.in-Some.token c.in-Some-token.token c.eq.result
    c.if-at-eq0.false c.in-Some.ensures c.in-Some-token.ensures (rw (← c.kind.ensures) c.eq.ensures) c.if-eq.true)

pub returns-else-eq : goal.returns-else-eq
returns-else-eq c =
    joins_else c.args.kind c.args.self.now.tokens.now c.args.at c.in-Some.token c.in-Some-token.token c.eq.result
    c.if-at-eq0.false c.in-Some.ensures c.in-Some-token.ensures (rw (← c.kind.ensures) c.eq.ensures) c.if-eq.false
