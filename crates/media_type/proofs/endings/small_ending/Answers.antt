use Rattle.std.proofs.Common.{◌∙◌, ap, sym}
use Rattle.media_type.specs.Endings.{media_type_of, first_ending, endings}
use Rattle.media_type.proofs.endings.small_ending.Goals as goal

-- the table of the code is that of the definition
pub returns : goal.returns
unfolding media_type_of
returns c = c.first_ending.ensures ∙ ap (first_ending endings) (sym c.requires)
