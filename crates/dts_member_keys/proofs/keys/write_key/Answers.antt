use Rattle.dts_member_keys.proofs.KeyLemmas.{kept_put}
use Rattle.dts_member_keys.proofs.keys.write_key.Goals as goal

pub returns-in-Kept-clause-written : goal.returns-in-Kept-clause-written
returns-in-Kept-clause-written c = λ e x ts o told.
    kept_put x ts _ _ c.in-Kept.kept o (c.keep_there.ensures.written e x ts) (rw c.in-Kept.is at told)

pub returns-in-Name-clause-written : goal.returns-in-Name-clause-written
returns-in-Name-clause-written c = λ e x ts o told.
    c.name_key.ensures.written e x ts o (rw c.in-Name.is at told)

pub returns-in-Symbol-clause-written : goal.returns-in-Symbol-clause-written
returns-in-Symbol-clause-written c = λ e x ts o told.
    c.symbol_key.ensures.written e x ts o (rw c.in-Symbol.is at told)

pub returns-in-Str-clause-written : goal.returns-in-Str-clause-written
returns-in-Str-clause-written c = λ e x ts o told.
    c.str_key.ensures.written e x ts o (rw c.in-Str.is at told)

pub returns-in-Number-clause-written : goal.returns-in-Number-clause-written
returns-in-Number-clause-written c = λ e x ts o told.
    c.number_key.ensures.written e x ts o (rw c.in-Number.is at told)
