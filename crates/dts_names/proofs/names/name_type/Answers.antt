use Rattle.dts_names.proofs.NameLemmas.{name_free, typeof_known, typeof_none}
use Rattle.dts_names.proofs.names.name_type.Goals as goal

-- nothing declares it
pub returns-then-are_same-clause-written : goal.returns-then-are_same-clause-written
returns-then-are_same-clause-written c = λ e by knows.
    name_free by _ knows _ _ _ _ _ _ _ c.in-Some.ensures c.are_same.ensures c.if-are_same.true
    (c.free_type.ensures.written e by _ _)

-- its type may be asked for
pub returns-then-is_typeof-clause-written : goal.returns-then-is_typeof-clause-written
returns-then-is_typeof-clause-written c = λ e by knows.
    typeof_known by _ knows _ _ _ _ c.in-Some.ensures c.are_same.ensures c.if-are_same.false c.is_typeof.ensures
    c.if-is_typeof.true (c.typeof_name.ensures.written e _ _)

-- or not
pub returns-else-is_typeof-clause-written : goal.returns-else-is_typeof-clause-written
returns-else-is_typeof-clause-written c = λ e by knows.
    typeof_none by _ knows _ _ _ _ _ c.in-Some.ensures c.are_same.ensures c.if-are_same.false c.is_typeof.ensures
    c.if-is_typeof.false
