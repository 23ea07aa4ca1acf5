use Rattle.std.proofs.Common.{◌≡◌, refl, sym, subst, ap, append-nil, rules}
use Rattle.sys_traits.specs.declared.error.SysErrorKind.TheVariants.{NotFound, Failed, OutOfMemory}
use Rattle.deno_path_util.specs.Course.{naming}
use Rattle.deno_path_util.specs.Steps.{HasEnding}
use Rattle.deno_path_util.proofs.CourseLemmas.{has_ending}
use Rattle.deno_path_util.proofs.AtomicLemmas.{told_over_done, told_over_refused, told_over_again}
use Rattle.deno_path_util.proofs.atomic.write_over.Goals as goal

pub returns-in-Ok-clause-tells : goal.returns-in-Ok-clause-tells
returns-in-Ok-clause-tells g c =
    told_over_done c.args.temporary.now c.args.path.now c.args.bytes.now c.args.mode _ _ c.in-Ok.ensures.tells

pub returns-then-eq-clause-tells : goal.returns-then-eq-clause-tells
returns-then-eq-clause-tells g c =
    let missing : c.in-Err.first.kind ≡ NotFound = search rules in
    told_over_again c.args.temporary.now c.args.path.now c.args.bytes.now c.args.mode c.in-Err.first
    c.write_again.result missing
    _ (g.S.SysState.told c.pass.new.sys) _ c.in-Err.ensures.tells c.write_again.ensures.tells

pub returns-else-eq-clause-tells : goal.returns-else-eq-clause-tells
returns-else-eq-clause-tells g c =
    told_over_refused c.args.temporary.now c.args.path.now c.args.bytes.now c.args.mode c.in-Err.first c.named.result
    (let h = c.if-eq.false in search rules)
    (subst (λ ending. HasEnding ending c.in-Err.first.kind c.named.result.kind c.named.result.message)
    (append-nil (naming c.args.path.now)) (has_ending _ _ c.in-Err.first.message _ _ c.named.ensures))
    _ _ c.in-Err.ensures.tells
