use Rattle.std.specs.Prelude.{Bool}
use Rattle.std.proofs.Common.{subst}
use Rattle.es_syntax.specs.Held.{held, valued}
use Rattle.es_syntax.specs.Roles.{expr_in}
use Rattle.dts_enums.specs.Forms.{Starts}
use Rattle.dts_enums.proofs.EnumLemmas.{member_bare, member_kept}
use Rattle.dts_enums.proofs.enums.member.Goals as goal

-- a value that stays
pub returns-then-starts_enum-clause-written : goal.returns-then-starts_enum-clause-written
returns-then-starts_enum-clause-written c = λ e x by.
    let ts = c.args.tokens.now in
    let P : Bool → Type 0 = λ b. Starts by b (expr_in (valued x ts c.in-Some.value)) in
    member_kept by x ts _ _ (valued x ts c.args.turn.now) (held x ts c.group-parts.result.entries.now)
    (held x ts c.group_at.result.entries.now) (valued x ts c.in-Some.value)
    (held x ts c.in-Some.field-0-1.entries.now) (c.group-parts.ensures.value x ts) (c.group_at.ensures.value x ts)
    (c.in-Some.ensures.value x ts) (subst P c.if-starts_enum.true (c.starts_enum.ensures x by))
    (c.keep_there.ensures.written e x ts)

-- a value that goes
pub returns-else-starts_enum-clause-written : goal.returns-else-starts_enum-clause-written
returns-else-starts_enum-clause-written c = λ e x by.
    let ts = c.args.tokens.now in
    let P : Bool → Type 0 = λ b. Starts by b (expr_in (valued x ts c.in-Some.value)) in
    member_bare by x ts _ _ (valued x ts c.args.turn.now) (held x ts c.group-parts.result.entries.now)
    (held x ts c.group_at.result.entries.now) (valued x ts c.in-Some.value)
    (held x ts c.in-Some.field-0-1.entries.now) (c.group-parts.ensures.value x ts) (c.group_at.ensures.value x ts)
    (c.in-Some.ensures.value x ts) (subst P c.if-starts_enum.false (c.starts_enum.ensures x by))
    (c.bare_member.ensures.written e x ts)
