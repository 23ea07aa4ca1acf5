-- What is told of the file that was refused.
use Rattle.vendor_files.proofs.WriteLemmas.{written_refused}
use Rattle.vendor_files.proofs.write.write_all.Goals as goal

pub returns-in-Err-clause-written : goal.returns-in-Err-clause-written
returns-in-Err-clause-written g c =
    written_refused c.args.mode c.args.files.now c.in-Err.refused c.index-files-refused.result
    c.index-files-refused.result c.told.result _ _ c.in-Err.ensures.number c.index-files-refused.is c.told.ensures
    c.in-Err.ensures.written
