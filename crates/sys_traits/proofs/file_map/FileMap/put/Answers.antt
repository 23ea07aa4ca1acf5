use Rattle.std.proofs.Common.{◌∙◌, ap, string_bytes}
use Rattle.sys_traits.specs.State.{Files}
use Rattle.sys_traits.specs.Files.{files_of, with_file}
use Rattle.sys_traits.proofs.FilesLemmas.{files_of-insert}
use Rattle.sys_traits.proofs.file_map.FileMap.put.Goals as goal

-- the path has its place among the paths
pub returns : goal.returns
returns c =
    ap files_of c.in_ok-insert.ensures.entries ∙ files_of-insert c.self.inside.entries.entries c.args.path c.args.bytes
    ∙ ap (λ (files : Files). with_file files (string_bytes c.args.path) c.args.bytes) c.self.view_is
