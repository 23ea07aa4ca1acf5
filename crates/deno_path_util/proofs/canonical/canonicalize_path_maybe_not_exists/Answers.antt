use Rattle.deno_path_util.specs.Climb.{IsClimbed}
use Rattle.deno_path_util.proofs.GainedLemmas.{told_quiet_calls, told_quiet_keeps}
use Rattle.deno_path_util.proofs.canonical.canonicalize_path_maybe_not_exists.Goals as goal

pub returns-clause-calls : goal.returns-clause-calls
returns-clause-calls g c = told_quiet_calls (IsClimbed c.args.path.now c.climb.result) _ _ c.climb.ensures.tells

pub returns-clause-files : goal.returns-clause-files
returns-clause-files g c = told_quiet_keeps (IsClimbed c.args.path.now c.climb.result) _ _ c.climb.ensures.tells
