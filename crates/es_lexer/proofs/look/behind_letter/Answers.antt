-- A letter, `$` or `_` is passed over.
use Rattle.std.proofs.Common.{refl}
use Rattle.std.proofs.lemmas.List.{take_rest}
use Rattle.es_lexer.proofs.PartLemmas.{letter_passed, word_done}
use Rattle.es_lexer.proofs.look.behind_letter.Goals as goal

pub returns-in-len1-up-clause-value : goal.returns-in-len1-up-clause-value
returns-in-len1-up-clause-value c =
    letter_passed c.word_end_from.result c.args.first c.args.text.now _ c.requires.letter c.in-len1-up.len_at_least
    (take_rest c.args.text.now 1) c.word_end_from.ensures.value

pub returns-in-empty-clause-value : goal.returns-in-empty-clause-value
returns-in-empty-clause-value c =
    word_done c.args.first c.args.first c.args.text.now c.args.text.now c.in-empty.len_below refl
