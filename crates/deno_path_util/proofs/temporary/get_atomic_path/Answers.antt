use Rattle.deno_path_util.specs.Course.{IsTemporary}
use Rattle.deno_path_util.proofs.GainedLemmas.{told_quiet_calls, told_quiet_keeps}
use Rattle.deno_path_util.proofs.temporary.get_atomic_path.Goals as goal

pub returns-clause-calls : goal.returns-clause-calls
returns-clause-calls g c =
    told_quiet_calls (IsTemporary c.args.path.now c.temporary_path.result) _ _ c.temporary_path.ensures.tells

pub returns-clause-files : goal.returns-clause-files
returns-clause-files g c =
    told_quiet_keeps (IsTemporary c.args.path.now c.temporary_path.result) _ _ c.temporary_path.ensures.tells
