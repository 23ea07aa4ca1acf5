-- A word is read as a number exactly if it is one.
use Rattle.std.proofs.Common.{rules, ◌≡◌, true, false, arith}
use Rattle.graph_run.specs.words.Words.{is_plain}
use Rattle.graph_run.proofs.words_lemmas.WordLemmas.{none_unplain, some_read, none_large, none_unread}
use Rattle.graph_run.proofs.words.words.count_of.Goals as goal

pub returns-then-not-is_plain : goal.returns-then-not-is_plain
returns-then-not-is_plain c =
    let no : is_plain c.args.word.now ≡ false = search rules in
    none_unplain c.args.word.now c.args.most c.requires no

pub returns-in-Ok : goal.returns-in-Ok
returns-in-Ok c =
    let plain : is_plain c.args.word.now ≡ true = search rules in
    some_read c.args.word.now c.args.most c.requires c.parse.result c.in-Ok.number c.parse.ensures.value.0 plain
    c.in-Ok.is c.if-number-most.true

pub returns-in_default : goal.returns-in_default
returns-in_default c =
    none_large c.args.word.now c.args.most c.requires c.parse.result c.in-Ok.number c.parse.ensures.value.0 c.in-Ok.is
    (omega (arith, c.if-number-most.false))

pub returns-in_default-2 : goal.returns-in_default-2
returns-in_default-2 c =
    none_unread c.args.word.now c.args.most c.requires c.parse.result c.in_default.field-0 c.parse.ensures.value.0
    c.in_default.is
