use Rattle.std.proofs.Common.{refl}
use Rattle.std.specs.declared.alloc.Global.{Global}
use Rattle.std.proofs.lemmas.Result.{err_from_is_err_and}
use Rattle.deno_path_util.proofs.DrawLemmas.{told_temporary, told_temporary_wanted, told_temporary_refused}
use Rattle.deno_path_util.proofs.temporary.temporary_path.Goals as goal

pub returns-in-Ok-clause-tells : goal.returns-in-Ok-clause-tells
returns-in-Ok-clause-tells g c =
    told_temporary c.args.path.now c.in_ok-bytes.bytes c.in-Ok.temporary c.in_ok-bytes.ensures.four c.in-Ok.ensures _ _
    c.in_ok-bytes.ensures.tells

pub returns-in-Err-clause-tells : goal.returns-in-Err-clause-tells
returns-in-Err-clause-tells g c =
    told_temporary_wanted Global c.args.path.now c.in_ok-bytes.bytes c.out_of_memory.result c.in_ok-bytes.ensures.four
    c.out_of_memory.ensures.kind _ _ c.in_ok-bytes.ensures.tells

pub returns-in_err-bytes-clause-tells : goal.returns-in_err-bytes-clause-tells
returns-in_err-bytes-clause-tells g c =
    let p = err_from_is_err_and c.from_residual.result c.from_residual.ensures.1 in
    rw (p.1, p.2) (told_temporary_refused Global c.args.path.now c.in_err-bytes.field-0.0 _ _
    c.in_err-bytes.ensures.tells)
