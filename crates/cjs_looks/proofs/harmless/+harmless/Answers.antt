use Rattle.es_lowering.specs.Texts.{span_of}
use Rattle.cjs_looks.proofs.Harms.{whole_chain, makes_non_null}
use Rattle.cjs_looks.proofs.harmless.+harmless.Goals as goal

-- its base, the first part behind it, and the others
pub call_harmless-returns-in-Some-Chain : goal.call_harmless-returns-in-Some-Chain
call_harmless-returns-in-Some-Chain t c =
    rw (c.in-Some-Chain.ensures.form c.args.text.now c.args.tokens.now, c.in-Some-Chain.field-0-is)
    (whole_chain _ _ _ _ _ _ _ c.is_harmless-before.ensures c.post_harmless-start.ensures c.posts_harmless.ensures)

pub post_harmless-returns-in-Some-NonNull : goal.post_harmless-returns-in-Some-NonNull
post_harmless-returns-in-Some-NonNull t c =
    rw (c.in-Some-NonNull.ensures.form c.args.text.now c.args.tokens.now, c.in-Some-NonNull.field-0-is)
    (makes_non_null (span_of c.args.tokens.now c.args.it.now.from c.args.it.now.to) _)
