use Rattle.std.proofs.Common.{◌≡◌}
use Rattle.sys_traits.specs.Memory.{placed_files}
use Rattle.sys_traits.proofs.GivenLemmas.{without, is_folder_of}
use Rattle.sys_traits.proofs.in_memory.given.files.Given as goal

abbrev pub invariant-loop-path : goal.invariant-loop-path
invariant-loop-path l =
    l.kept ≡ without (is_folder_of l.made l.path-index) (placed_files l.folder l.files)
