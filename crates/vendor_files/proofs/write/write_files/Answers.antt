-- What the paths read, as the writes tell.
use Rattle.deno_path_util.proofs.ToldLemmas.{told_map}
use Rattle.vendor_files.specs.Written.{IsWritten, Stands}
use Rattle.vendor_files.proofs.StandLemmas.{stands}
use Rattle.vendor_files.proofs.write.write_files.Goals as goal

pub returns-in-Ok-At-clause-stands : goal.returns-in-Ok-At-clause-stands
returns-in-Ok-At-clause-stands g c =
    told_map (IsWritten c.args.files.now c.args.mode c.write_all.result) (Stands c.args.files.now c.write_all.result)
    (λ a b h. stands c.args.mode c.args.files.now c.in-Ok-At.paths.keys c.write_all.result a b
    (rw c.in-Ok-At.field-0-is at c.in-Ok-At.ensures) h) _ _ c.write_all.ensures.written
