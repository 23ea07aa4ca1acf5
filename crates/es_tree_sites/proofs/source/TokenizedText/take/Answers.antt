use Rattle.std.proofs.Common.{◌≡◌, ◌++◌, sym, ap}
use Rattle.es_tree_sites.specs.Left.{ahead}
use Rattle.es_tree_sites.proofs.NamedLemmas.{rest_none}
use Rattle.es_tree_sites.proofs.source.TokenizedText.take.Goals as goal

-- nothing is named in what is left
pub returns-in-None-clause-sites : goal.returns-in-None-clause-sites
returns-in-None-clause-sites c =
    ap (λ s. c.args.found.now ++ (s ++ ahead c.args.self.now c.args.around.now))
    (sym (rest_none c.args.self.now.text.now c.args.self.now.tokens.now c.args.left.ways.now c.args.left.rest
    c.args.left.parts.entries.now c.in-None.ensures))
