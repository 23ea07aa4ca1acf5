use Rattle.deno_path_util.specs.Course.{IsWrite}
use Rattle.deno_path_util.proofs.GainedLemmas.{told_law, told_calls}
use Rattle.deno_path_util.proofs.atomic.atomic_write_file.Goals as goal

pub returns-clause-law : goal.returns-clause-law
returns-clause-law g c =
    told_law c.args.file_path.now c.args.bytes.now c.write_file.result
    (IsWrite c.args.file_path.now c.args.mode c.write_file.result) _ _ c.write_file.ensures.tells

pub returns-clause-calls : goal.returns-clause-calls
returns-clause-calls g c =
    told_calls c.args.file_path.now c.args.bytes.now c.write_file.result
    (IsWrite c.args.file_path.now c.args.mode c.write_file.result) _ _ c.write_file.ensures.tells
