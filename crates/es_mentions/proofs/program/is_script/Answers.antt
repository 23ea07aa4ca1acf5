use Rattle.std.proofs.Common.{sym, ap, ◌∙◌}
use Rattle.es_syntax.specs.Trees.{trees}
use Rattle.es_mentions.specs.Kinds.{seen_so, is_script}
use Rattle.es_mentions.proofs.NodeLemmas.{first_node}
use Rattle.es_mentions.proofs.program.is_script.Goals as goal

pub returns-in-None : goal.returns-in-None
returns-in-None c =
    sym (ap (seen_so is_script) (sym (first_node (trees c.args.row.now.entries.now)) ∙ c.in-None.ensures))
