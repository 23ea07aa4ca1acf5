use Rattle.std.proofs.Common.{◌≡◌, ◌++◌, map, take}
use Rattle.sys_traits.specs.Paths.{spot, parent_of}
use Rattle.sys_traits.proofs.in_memory.given.push_parents.Given as goal

abbrev pub invariant-loop-file : goal.invariant-loop-file
invariant-loop-file l =
    l.made ≡ l.initial.made ++ map (λ file. parent_of (spot l.folder file.0)) (take l.file-index l.files)
