-- An escaped character is written behind those before it, and the second quote behind all.
use Rattle.std.proofs.Common.{◌++◌, encode_utf8, encode_utf8_all, ◌∙◌, ap, sym, map-id}
use Rattle.std.proofs.lemmas.Iterator.{YieldsList-from_chars}
use Rattle.std.proofs.lemmas.Iterator.Consumers.{YieldsList-end}
use Rattle.es_literal.specs.Quotes.{escaped, quoted}
use Rattle.es_literal.proofs.QuoteLemmas.{quote_more, quote_done}
use Rattle.es_literal.proofs.quotes.quoted.Goals as goal

pub loop-c-preserved : goal.loop-c-preserved
loop-c-preserved c =
    c.in_ok-push_escaped.ensures
    ∙ (ap (λ t. t ++ encode_utf8_all (escaped c.in-Some.c)) c.loop-c.invariant
    ∙ sym (quote_more c.loop-c.yielded c.in-Some.c))

pub returns : goal.returns
returns c =
    let done = YieldsList-end (YieldsList-from_chars c.args.value.now c.utf8.value cc) c.loop-c.yielded _
    c.loop-c.yielded_by _ _ c.in-None.is c.next.ensures.steps in
    c.in_ok-push-2.ensures.bytes
    ∙ (ap (λ t. t ++ encode_utf8 34) c.loop-c.invariant
    ∙ (quote_done c.loop-c.yielded ∙ ap (λ cs. encode_utf8_all (quoted cs)) (sym (map-id c.loop-c.yielded) ∙ done.0)))
