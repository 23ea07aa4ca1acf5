use Rattle.std.proofs.Common.{◌∙◌}
use Rattle.std.specs.declared.alloc.Global.{Global}
use Rattle.std.proofs.lemmas.Result.{err_from_is_err_and}
use Rattle.deno_path_util.proofs.PathLemmas.{temporary_apart}
use Rattle.deno_path_util.proofs.DrawLemmas.{told_undrawn, told_whole}
use Rattle.deno_path_util.proofs.atomic.write_file.Goals as goal

pub returns-in_err-temporary-clause-tells : goal.returns-in_err-temporary-clause-tells
returns-in_err-temporary-clause-tells g c =
    let p = err_from_is_err_and c.from_residual.result c.from_residual.ensures.1 in
    rw (p.1, p.2) (told_undrawn Global c.args.path.now c.args.bytes.now c.args.mode c.in_err-temporary.field-0.0 _ _
    c.in_err-temporary.ensures.tells)

pub write_over-requires : goal.write_over-requires
write_over-requires g c =
    temporary_apart c.args.path.now c.as_str.result.now c.requires
    (let k = c.in_ok-temporary.ensures.path in (k.0, k.1, c.as_str.ensures.value ∙ k.2))

pub returns-clause-tells : goal.returns-clause-tells
returns-clause-tells g c =
    told_whole c.args.path.now c.args.bytes.now c.args.mode c.in_ok-temporary.temporary c.write_over.result _
    (g.S.SysState.told c.temporary_path.new.sys) _
    c.in_ok-temporary.ensures.tells
    (rw c.as_str.ensures.value at c.write_over.ensures.tells)
