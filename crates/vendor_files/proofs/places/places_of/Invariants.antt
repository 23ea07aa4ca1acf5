use Rattle.std.proofs.Common.{take}
use Rattle.vendor_files.specs.Places.{ArePathsOf}
use Rattle.vendor_files.proofs.places.places_of.Given as goal

-- the files so far go to these paths
abbrev pub invariant-loop-file : goal.invariant-loop-file
invariant-loop-file l = ArePathsOf (take l.file-index l.files) l.paths.keys
