use Rattle.dts_member_keys.proofs.KeyLemmas.{word_told, str_told, number_told, private_told, computed_told}
use Rattle.dts_member_keys.proofs.keys.member_key.Goals as goal

pub returns-in-Some-Word : goal.returns-in-Some-Word
returns-in-Some-Word c = λ by knows.
    let x = c.args.env.now.text.now in
    let ts = c.args.env.now.tokens.now in
    word_told by x ts c.args.key.now _ (rw c.in-Some-Word.field-0-is at (c.in-Some-Word.ensures.form x ts))

pub returns-in-Some-Str : goal.returns-in-Some-Str
returns-in-Some-Str c = λ by knows.
    let x = c.args.env.now.text.now in
    let ts = c.args.env.now.tokens.now in
    str_told by x ts c.args.key.now _ (rw c.in-Some-Str.field-0-is at (c.in-Some-Str.ensures.form x ts))

pub returns-in-Some-Number : goal.returns-in-Some-Number
returns-in-Some-Number c = λ by knows.
    let x = c.args.env.now.text.now in
    let ts = c.args.env.now.tokens.now in
    number_told by x ts c.args.key.now _ (rw c.in-Some-Number.field-0-is at (c.in-Some-Number.ensures.form x ts))

-- in brackets
pub returns-in-Some-Computed : goal.returns-in-Some-Computed
returns-in-Some-Computed c = λ by knows.
    let x = c.args.env.now.text.now in
    let ts = c.args.env.now.tokens.now in
    rw (c.in-Some-Computed.ensures.form x ts, c.in-Some-Computed.field-0-is)
    (computed_told by x ts c.bracketed.result _ (c.bracketed.ensures by knows))

-- `#a`
pub returns-in-Some-Private : goal.returns-in-Some-Private
returns-in-Some-Private c = λ by knows.
    let x = c.args.env.now.text.now in
    let ts = c.args.env.now.tokens.now in
    rw (c.in-Some-Private.ensures.form x ts, c.in-Some-Private.field-0-is) (private_told by x ts _)
