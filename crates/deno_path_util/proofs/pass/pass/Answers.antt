use Rattle.std.proofs.Common.{arith}
use Rattle.std.proofs.lemmas.Result.{err_from_is_err_and}
use Rattle.deno_path_util.proofs.ToldLemmas.{counted_or, counted_after}
use Rattle.deno_path_util.proofs.PassLemmas.{told_not_opened, told_not_written, told_not_renamed, told_renamed}
use Rattle.deno_path_util.proofs.pass.pass.Goals as goal

pub returns-in_err-file-clause-tells : goal.returns-in_err-file-clause-tells
returns-in_err-file-clause-tells g c =
    let p = err_from_is_err_and c.from_residual.result c.from_residual.ensures.1 in
    rw (p.1, p.2) (told_not_opened c.args.temporary.now c.args.path.now c.args.bytes.now c.args.mode
    c.in_err-file.field-0.0 c.requires _ _ c.in_err-file.ensures.tells)

pub returns-in_err-fs_write_all-clause-tells : goal.returns-in_err-fs_write_all-clause-tells
returns-in_err-fs_write_all-clause-tells g c =
    let p = err_from_is_err_and c.from_residual-in_err-fs_write_all.result
    c.from_residual-in_err-fs_write_all.ensures.1 in
    rw (p.1, p.2) (told_not_written c.args.temporary.now c.args.path.now c.args.bytes.now c.args.mode
    c.in_err-fs_write_all.field-0.0 c.requires
    c.in_ok-file.file.path c.in_ok-file.ensures.named _ (g.S.SysState.told c.fs_open.new.self) _
    c.in_ok-file.ensures.tells c.in_err-fs_write_all.ensures.tells)

pub returns-in-Err-clause-counts : goal.returns-in-Err-clause-counts
returns-in-Err-clause-counts g c =
    counted_or c.in-Err.refused.kind c.without_temporary.result.kind (g.S.SysState.faults c.args.sys.now)
    (g.S.SysState.faults c.fs_rename.new.self) (g.S.SysState.faults c.without_temporary.new.sys)
    c.without_temporary.ensures.kind
    (let o = c.in_ok-file.ensures.counts in let w = c.in_ok-fs_write_all.ensures.counts in
    counted_after c.in-Err.refused.kind _ (g.S.SysState.faults c.fs_write_all.new.self) _ (omega arith)
    c.in-Err.ensures.counts)
    c.without_temporary.ensures.counts

pub returns-in-Err-clause-tells : goal.returns-in-Err-clause-tells
returns-in-Err-clause-tells g c =
    told_not_renamed c.args.temporary.now c.args.path.now c.args.bytes.now c.args.mode c.without_temporary.result
    c.in-Err.refused.kind c.requires
    c.in_ok-file.file.path c.in_ok-file.ensures.named _ (g.S.SysState.told c.fs_open.new.self)
    (g.S.SysState.told c.fs_write_all.new.self) (g.S.SysState.told c.fs_rename.new.self) _
    c.in_ok-file.ensures.tells c.in_ok-fs_write_all.ensures.tells c.in-Err.ensures.tells
    c.without_temporary.ensures.tells

pub returns-in-Ok-clause-tells : goal.returns-in-Ok-clause-tells
returns-in-Ok-clause-tells g c =
    told_renamed c.args.temporary.now c.args.path.now c.args.bytes.now c.args.mode c.requires
    c.in_ok-file.file.path c.in_ok-file.ensures.named _ (g.S.SysState.told c.fs_open.new.self)
    (g.S.SysState.told c.fs_write_all.new.self) _
    c.in_ok-file.ensures.tells c.in_ok-fs_write_all.ensures.tells c.in-Ok.ensures.tells
