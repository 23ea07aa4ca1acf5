use Rattle.std.proofs.Common.{◌∙◌}
use Rattle.sys_traits.proofs.FilesLemmas.{files_of-clone}
use Rattle.sys_traits.proofs.file_map.FileMap.copy.Goals as goal

pub returns : goal.returns
returns c = files_of-clone _ _ c.in_ok-clone.ensures.cases ∙ c.self.view_is
