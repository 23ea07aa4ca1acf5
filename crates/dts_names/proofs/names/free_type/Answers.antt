use Rattle.dts_names.proofs.NameLemmas.{free_undefined, free_number, free_none}
use Rattle.dts_names.proofs.names.free_type.Goals as goal

pub returns-then-is_literal_undefined-clause-written : goal.returns-then-is_literal_undefined-clause-written
returns-then-is_literal_undefined-clause-written c = λ e env x ts id same.
    free_undefined x ts _ _ _ _ _ id env c.is_literal_undefined.ensures c.if-is_literal_undefined.true
    (c.word.ensures.written e x ts) same

pub returns-then-is_number_name-clause-written : goal.returns-then-is_number_name-clause-written
returns-then-is_number_name-clause-written c = λ e env x ts id same.
    free_number x ts _ _ _ _ _ _ id env c.is_literal_undefined.ensures c.if-is_literal_undefined.false
    c.is_number_name.ensures c.if-is_number_name.true (c.word-then-is_number_name.ensures.written e x ts) same

pub returns-clause-written : goal.returns-clause-written
returns-clause-written c = λ e env x ts id same.
    free_none x ts _ _ _ _ _ id env c.is_literal_undefined.ensures c.if-is_literal_undefined.false
    c.is_number_name.ensures c.if-is_number_name.false same
