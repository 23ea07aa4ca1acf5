use Rattle.std.proofs.Common.{◌∙◌, ap}
use Rattle.sys_traits.specs.State.{Files, file_at}
use Rattle.sys_traits.specs.Files.{files_of, without_file}
use Rattle.sys_traits.proofs.FilesLemmas.{file_at-lookup, files_of-remove}
use Rattle.sys_traits.proofs.file_map.FileMap.take.Goals as goal

pub returns-clause-bytes : goal.returns-clause-bytes
returns-clause-bytes c =
    c.remove.ensures.value ∙ file_at-lookup c.args.path.now c.self.inside.entries.entries
    ∙ ap (λ (files : Files). file_at files c.args.path.now) c.self.view_is

pub returns-clause-files : goal.returns-clause-files
returns-clause-files c =
    ap files_of c.remove.ensures.entries
    ∙ files_of-remove c.args.path.now c.self.inside.entries.entries c.len-count.ensures.ordered
    ∙ ap (λ (files : Files). without_file files c.args.path.now) c.self.view_is
