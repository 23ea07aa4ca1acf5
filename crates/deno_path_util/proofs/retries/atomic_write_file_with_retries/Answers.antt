use Rattle.deno_path_util.specs.Tries.{IsTried}
use Rattle.deno_path_util.proofs.GainedLemmas.{told_law, told_calls}
use Rattle.deno_path_util.proofs.retries.atomic_write_file_with_retries.Goals as goal

pub returns-clause-law : goal.returns-clause-law
returns-clause-law g c =
    told_law c.args.file_path.now c.args.bytes.now c.tried.result
    (IsTried c.args.file_path.now c.args.mode 5 c.tried.result) _ _ c.tried.ensures.tells

pub returns-clause-calls : goal.returns-clause-calls
returns-clause-calls g c =
    told_calls c.args.file_path.now c.args.bytes.now c.tried.result
    (IsTried c.args.file_path.now c.args.mode 5 c.tried.result) _ _ c.tried.ensures.tells
