use Rattle.std.proofs.Common.{◌≡◌, ◌++◌, refl, sym, subst, codes, rules}
use Rattle.deno_path_util.specs.Course.{naming}
use Rattle.deno_path_util.specs.Steps.{HasEnding}
use Rattle.deno_path_util.proofs.ToldLemmas.{fault_unless}
use Rattle.deno_path_util.proofs.CourseLemmas.{has_ending}
use Rattle.deno_path_util.proofs.AtomicLemmas.{told_looked_missing, told_looked_not_seen}
use Rattle.deno_path_util.proofs.atomic.not_made.Goals as goal

pub returns-in-Ok-false-clause-tells : goal.returns-in-Ok-false-clause-tells
returns-in-Ok-false-clause-tells g c =
    let r = c.named-in-Ok-false.result in
    told_looked_missing c.args.path.now c.folder_of-folder.result.now c.folder_of-folder.ensures c.args.refused.kind r
    (subst (λ f. HasEnding (naming f ++ codes "\nCheck the permission of the directory.") c.args.refused.kind r.kind
    r.message) c.folder_of-folder.ensures (has_ending _ _ c.args.refused.message _ _ c.named-in-Ok-false.ensures))
    _ _ (rw c.in-Ok-false.field-0-test at c.in-Ok-false.ensures.tells)

pub returns-else-eq-clause-tells : goal.returns-else-eq-clause-tells
returns-else-eq-clause-tells g c =
    let r = c.named-in-Err.result in
    told_looked_not_seen c.args.path.now c.folder_of-folder.result.now c.folder_of-folder.ensures c.args.refused.kind
    c.in-Err.error.kind r
    (fault_unless c.in-Err.error.kind (let h = c.if-eq.false in search rules))
    (subst (λ f. HasEnding (naming f ++ codes "\nCheck the permission of the directory.") c.args.refused.kind r.kind
    r.message) c.folder_of-folder.ensures (has_ending _ _ c.args.refused.message _ _ c.named-in-Err.ensures))
    _ _ c.in-Err.ensures.tells
