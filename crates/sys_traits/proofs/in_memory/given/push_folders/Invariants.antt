use Rattle.std.proofs.Common.{◌≡◌, ◌++◌, map, take}
use Rattle.sys_traits.specs.Paths.{spot}
use Rattle.sys_traits.proofs.in_memory.given.push_folders.Given as goal

abbrev pub invariant-loop-path : goal.invariant-loop-path
invariant-loop-path l = l.made ≡ l.initial.made ++ map (λ path. spot l.folder path) (take l.path-index l.folders)
