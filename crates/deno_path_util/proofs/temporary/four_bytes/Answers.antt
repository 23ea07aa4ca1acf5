use Rattle.std.proofs.Common.{[], ◌∷◌, arith}
use Rattle.std.proofs.lemmas.Result.{err_from_is_err_and}
use Rattle.deno_path_util.proofs.DrawLemmas.{told_drawn, told_drawn_more, told_refused_after, told_refused_first, told_four_drawn}
use Rattle.deno_path_util.proofs.temporary.four_bytes.Goals as goal

pub returns-in_err-first-clause-tells : goal.returns-in_err-first-clause-tells
returns-in_err-first-clause-tells g c =
    let p = err_from_is_err_and c.from_residual.result c.from_residual.ensures.1 in
    rw (p.1, p.2) (told_refused_first c.in_err-first.field-0.0 _ _ c.in_err-first.ensures.tells)

pub returns-in_err-second-clause-tells : goal.returns-in_err-second-clause-tells
returns-in_err-second-clause-tells g c =
    let p = err_from_is_err_and c.from_residual-in_err-second.result c.from_residual-in_err-second.ensures.1 in
    let one = c.in_ok-first.first in
    rw (p.1, p.2) (told_refused_after (one ∷ []) c.in_err-second.field-0.0 (omega arith) _
    (g.S.SysState.told c.sys_random_u8.new.self) _
    (told_drawn one _ _ c.in_ok-first.ensures.tells) c.in_err-second.ensures.tells)

pub returns-in_err-third-clause-tells : goal.returns-in_err-third-clause-tells
returns-in_err-third-clause-tells g c =
    let p = err_from_is_err_and c.from_residual-in_err-third.result c.from_residual-in_err-third.ensures.1 in
    let one = c.in_ok-first.first in
    let two = c.in_ok-second.second in
    rw (p.1, p.2) (told_refused_after (one ∷ two ∷ []) c.in_err-third.field-0.0 (omega arith) _
    (g.S.SysState.told c.sys_random_u8-2.new.self) _
    (told_drawn_more (one ∷ []) two _ (g.S.SysState.told c.sys_random_u8.new.self) _
    (told_drawn one _ _ c.in_ok-first.ensures.tells) c.in_ok-second.ensures.tells)
    c.in_err-third.ensures.tells)

pub returns-in_err-fourth-clause-tells : goal.returns-in_err-fourth-clause-tells
returns-in_err-fourth-clause-tells g c =
    let p = err_from_is_err_and c.from_residual-in_err-fourth.result c.from_residual-in_err-fourth.ensures.1 in
    let one = c.in_ok-first.first in
    let two = c.in_ok-second.second in
    let three = c.in_ok-third.third in
    rw (p.1, p.2) (told_refused_after (one ∷ two ∷ three ∷ []) c.in_err-fourth.field-0.0 (omega arith) _
    (g.S.SysState.told c.sys_random_u8-3.new.self) _
    (told_drawn_more (one ∷ two ∷ []) three _ (g.S.SysState.told c.sys_random_u8-2.new.self) _
    (told_drawn_more (one ∷ []) two _ (g.S.SysState.told c.sys_random_u8.new.self) _
    (told_drawn one _ _ c.in_ok-first.ensures.tells) c.in_ok-second.ensures.tells)
    c.in_ok-third.ensures.tells)
    c.in_err-fourth.ensures.tells)
