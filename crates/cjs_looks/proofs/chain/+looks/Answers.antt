use Rattle.std.proofs.Common.{sym, ◌∙◌}
use Rattle.es_lowering.specs.Texts.{span_of}
use Rattle.cjs_looks.specs.Seen.{name_at}
use Rattle.cjs_looks.proofs.Args.{call_none, tells_first}
use Rattle.cjs_looks.proofs.Links.{whole_chain, makes_non_null}
use Rattle.cjs_looks.proofs.chain.+looks.Goals as goal

-- what a view isn't an assignment of has no right side
pub kind_at-returns-in-Some-clause-under : goal.kind_at-returns-in-Some-clause-under
kind_at-returns-in-Some-clause-under t c = c.primary_kind.ensures.under c.args.it.now.parts

pub call_kind-returns-in-None-clause-under : goal.call_kind-returns-in-None-clause-under
call_kind-returns-in-None-clause-under t c = c.function_kind.ensures.under c.args.it.now.parts

-- its base, the first part behind it, and the others
pub call_kind-returns-in-Some-Chain-clause-kind : goal.call_kind-returns-in-Some-Chain-clause-kind
call_kind-returns-in-Some-Chain-clause-kind t c =
    rw (c.in-Some-Chain.ensures.form c.args.text.now c.args.tokens.now, c.in-Some-Chain.field-0-is)
    (whole_chain _ _ _ _ _ _ _ c.look_at-before.ensures c.post_look-start.ensures.makes c.posts_look.ensures)

pub post_look-returns-in-Some-NonNull-clause-makes : goal.post_look-returns-in-Some-NonNull-clause-makes
post_look-returns-in-Some-NonNull-clause-makes t c =
    rw (c.in-Some-NonNull.ensures.form c.args.text.now c.args.tokens.now, c.in-Some-NonNull.field-0-is)
    (makes_non_null (span_of c.args.tokens.now c.args.it.now.from c.args.it.now.to) _)

-- by neither of the two names
pub named_call-returns-clause-tells : goal.named_call-returns-clause-tells
named_call-returns-clause-tells t c =
    call_none (name_at c.args.text.now c.args.tokens.now c.args.name) _ (sym c.spells.ensures ∙ c.if-spells.false)
    (sym c.spells-2.ensures ∙ c.if-spells-2.false)

pub first_look-returns-in-Some : goal.first_look-returns-in-Some
first_look-returns-in-Some t c =
    rw (c.in-Some-Arguments.ensures.form c.args.text.now c.args.tokens.now, c.in-Some-Arguments.field-0-is)
    (tells_first _ _ _ _ _ (c.in-Some.ensures.value c.args.text.now c.args.tokens.now)
    c.argument_look.ensures)
