use Rattle.std.proofs.Common.{refl}
use Rattle.std.proofs.lemmas.Str.Ascii.{trim_ascii_is}
use Rattle.media_type.specs.mime_essence.Blanks.{trim_blanks}
use Rattle.media_type.proofs.mime_essence.trim_blanks.Goals as goal

-- what is trimmed are the blanks at both ends
pub returns : goal.returns
unfolding trim_blanks
returns c = trim_ascii_is _ _ _ refl c.trim_ascii.ensures.value
