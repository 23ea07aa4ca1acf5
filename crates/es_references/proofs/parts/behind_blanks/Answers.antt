use Rattle.es_references.proofs.PartsLemmas.{blank_boundary}
use Rattle.es_references.proofs.parts.behind_blanks.Goals as goal

-- a blank is one byte
pub range_from-requires : goal.range_from-requires
range_from-requires c =
    λ some. blank_boundary c.args.text.now c.blanks-count.result c.utf8.text c.blanks-count.ensures some
