-- The essence of a MIME type (MIME Sniffing Standard, "essence"), as it is written.
use Rattle.std.specs.Prelude.{ℕ, ◌==◌, List}
use Rattle.std.specs.List.{before_first}
use Rattle.media_type.specs.mime_essence.Blanks.{trim_blanks}

-- the text up to its first `;`, behind which the parameters stand, less the blanks at both ends
abbrev pub essence_of : List ℕ → List ℕ
essence_of mime = trim_blanks (before_first (λ b. b == 59) mime)
