-- It goes down by the place.
use Rattle.es_tree_sites.proofs.source.TokenizedText.+part.Given as goal

abbrev pub decreases-part : goal.decreases-part
decreases-part l = l.n
