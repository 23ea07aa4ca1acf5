use Rattle.std.proofs.Common.{◌≡◌, refl, sym, subst, append-nil, rules}
use Rattle.sys_traits.specs.declared.error.SysErrorKind.TheVariants.{NotFound, Failed, OutOfMemory}
use Rattle.deno_path_util.specs.Course.{naming}
use Rattle.deno_path_util.specs.Steps.{HasEnding}
use Rattle.deno_path_util.proofs.ToldLemmas.{fault_unless}
use Rattle.deno_path_util.proofs.CourseLemmas.{has_ending}
use Rattle.deno_path_util.proofs.AtomicLemmas.{told_again_done, told_again_refused, told_again_wanted, told_again_unmade}
use Rattle.deno_path_util.proofs.atomic.write_again.Goals as goal

pub returns-in-Ok-pass-clause-tells : goal.returns-in-Ok-pass-clause-tells
returns-in-Ok-pass-clause-tells g c =
    told_again_done c.args.temporary.now c.args.path.now c.args.bytes.now c.args.mode c.folder_of-folder.result.now
    c.folder_of-folder.ensures c.args.first
    _ (g.S.SysState.told c.fs_create_dir_all.new.self) _ c.in-Ok.ensures.tells c.in-Ok-pass.ensures.tells

pub returns-in-Ok-clause-tells : goal.returns-in-Ok-clause-tells
returns-in-Ok-clause-tells g c =
    told_again_refused c.args.temporary.now c.args.path.now c.args.bytes.now c.args.mode c.folder_of-folder.result.now
    c.folder_of-folder.ensures c.in-Err-pass.second c.named.result
    (subst (λ ending. HasEnding ending c.in-Err-pass.second.kind c.named.result.kind c.named.result.message)
    (append-nil (naming c.args.path.now)) (has_ending _ _ c.in-Err-pass.second.message _ _ c.named.ensures))
    _ (g.S.SysState.told c.fs_create_dir_all.new.self) _ c.in-Ok.ensures.tells c.in-Err-pass.ensures.tells

pub returns-then-eq-clause-tells : goal.returns-then-eq-clause-tells
returns-then-eq-clause-tells g c =
    told_again_wanted c.args.temporary.now c.args.path.now c.args.bytes.now c.args.mode c.folder_of-folder.result.now
    c.in-Err.refused
    (search rules) _ _ c.in-Err.ensures.tells

pub returns-clause-tells : goal.returns-clause-tells
returns-clause-tells g c =
    told_again_unmade c.args.temporary.now c.args.path.now c.args.bytes.now c.args.mode c.folder_of-folder.result.now
    c.folder_of-folder.ensures c.in-Err.refused c.not_made.result
    (fault_unless c.in-Err.refused.kind (let h = c.if-eq.false in search rules)) _
    (g.S.SysState.told c.fs_create_dir_all.new.self) _ c.in-Err.ensures.tells c.not_made.ensures.tells
