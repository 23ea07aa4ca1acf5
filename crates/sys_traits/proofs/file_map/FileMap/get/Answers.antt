use Rattle.std.proofs.Common.{◌∙◌, ap, Some}
use Rattle.sys_traits.specs.State.{file_at}
use Rattle.sys_traits.proofs.FilesLemmas.{file_at-lookup}
use Rattle.sys_traits.proofs.file_map.FileMap.get.Goals as goal

-- what the map has at the path is what the path reads
pub returns-in-Some : goal.returns-in-Some
returns-in-Some c =
    ap Some c.as_slice.ensures ∙ c.in-Some.ensures.value
    ∙ file_at-lookup c.args.path.now c.self.inside.entries.entries
    ∙ ap (λ files. file_at files c.args.path.now) c.self.view_is

pub returns-in-None : goal.returns-in-None
returns-in-None c =
    c.in-None.ensures.value
    ∙ file_at-lookup c.args.path.now c.self.inside.entries.entries
    ∙ ap (λ files. file_at files c.args.path.now) c.self.view_is
