-- A letter, a digit, `$` or `_` is passed over.
use Rattle.std.proofs.Common.{◌∙◌, arith}
use Rattle.std.proofs.lemmas.List.{take_rest}
use Rattle.es_literal.proofs.spelling_lemmas.UnitLemmas.{turn_place}
use Rattle.es_lexer.proofs.PartLemmas.{word_turn, word_done}
use Rattle.es_lexer.proofs.look.word_end_from.Goals as goal

pub loop-rest-preserved : goal.loop-rest-preserved
loop-rest-preserved c = record {
  same = word_turn c.loop-rest.at c.args.first c.loop-rest.rest.now _ c.args.text.now c.is_part.result
      c.in-len1-up.len_at_least c.is_part.ensures c.if-not-is_part.false (take_rest c.loop-rest.rest.now 1)
      c.loop-rest.invariant.same;
  place = turn_place c.loop-rest.at 1 c.loop-rest.rest.now _ (take_rest c.loop-rest.rest.now 1)
      c.in-len1-up.len_at_least
      ∙ c.loop-rest.invariant.place;
  forward = omega (arith, c.loop-rest.invariant.forward);
}

pub returns-clause-value : goal.returns-clause-value
returns-clause-value c =
    word_done c.loop-rest.at c.args.first c.loop-rest.rest.now c.args.text.now c.in_default.len_below
    c.loop-rest.invariant.same
