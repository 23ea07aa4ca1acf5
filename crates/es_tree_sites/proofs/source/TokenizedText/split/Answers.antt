use Rattle.es_tree_sites.proofs.PartLemmas.{split_parts}
use Rattle.es_tree_sites.proofs.source.TokenizedText.split.Goals as goal

-- its trees are what is split
pub returns-clause-value : goal.returns-clause-value
returns-clause-value c =
    split_parts c.args.self.now c.args.parts.now.entries.now c.split.result c.split.ensures.trees
