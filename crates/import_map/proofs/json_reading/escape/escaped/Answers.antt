-- An escaped character is written behind those before it.
use Rattle.std.proofs.Common.{◌++◌, encode_utf8_all, flat_map, ◌∙◌, ap, sym, map-id}
use Rattle.std.proofs.lemmas.Iterator.{YieldsList-from_chars}
use Rattle.std.proofs.lemmas.Iterator.Consumers.{YieldsList-end}
use Rattle.import_map.specs.json_reading.Reading.{escaped_char}
use Rattle.import_map.proofs.json_reading_lemmas.ReadingLemmas.{escape_more}
use Rattle.import_map.proofs.json_reading.escape.escaped.Goals as goal

pub loop-c-preserved : goal.loop-c-preserved
loop-c-preserved c =
    c.in_ok-push_escaped.ensures
    ∙ (ap (λ t. t ++ encode_utf8_all (escaped_char c.in-Some.c)) c.loop-c.invariant
    ∙ sym (escape_more c.loop-c.yielded c.in-Some.c))

pub returns : goal.returns
returns c =
    let done = YieldsList-end (YieldsList-from_chars c.args.key.now c.utf8.key cc) c.loop-c.yielded _
    c.loop-c.yielded_by _ _ c.in-None.is c.next.ensures.steps in
    c.loop-c.invariant
    ∙ ap (λ cs. encode_utf8_all (flat_map escaped_char cs)) (sym (map-id c.loop-c.yielded) ∙ done.0)
