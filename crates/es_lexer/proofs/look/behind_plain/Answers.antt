-- Where no part stands, the word ends.
use Rattle.std.proofs.Common.{refl}
use Rattle.es_lexer.proofs.PartLemmas.{word_stops}
use Rattle.es_lexer.proofs.look.behind_plain.Goals as goal

pub returns-then-ends_word-clause-value : goal.returns-then-ends_word-clause-value
returns-then-ends_word-clause-value c =
    word_stops c.args.first c.args.first c.args.text.now c.args.text.now c.if-ends_word.ensures.none refl
