use Rattle.std.proofs.Common.{◌≡◌, ◌++◌, sym, ap, ◌∙◌}
use Rattle.es_tree_sites.specs.Left.{left_sites, named_if}
use Rattle.es_tree_sites.proofs.WalkLemmas.{either_tree, either_parts, parts_named}
use Rattle.es_tree_sites.proofs.source.TokenizedText.in_either.Goals as goal

-- a group is no tree, and names nothing
pub returns-then-is_parts-clause-sites : goal.returns-then-is_parts-clause-sites
returns-then-is_parts-clause-sites c =
    let i = c.args.item.now in
    let so = sym c.is_parts.ensures ∙ c.if-is_parts.true in
    either_parts c.args.self.now.text.now c.args.self.now.tokens.now c.args.group i.what i.from i.to i.parts.entries.now
    (left_sites c.args.self.now c.in_parts.result) so c.in_parts.ensures.sites
    ∙ ap (λ k. k ++ left_sites c.args.self.now c.in_parts.result)
    (sym (parts_named c.args.self.now i.what i.parts so))

-- and nothing else is a group
pub returns-clause-sites : goal.returns-clause-sites
returns-clause-sites c =
    let i = c.args.item.now in
    let so = sym c.is_parts.ensures ∙ c.if-is_parts.false in
    either_tree c.args.self.now.text.now c.args.self.now.tokens.now c.args.group i.what i.from i.to i.parts.entries.now
    _ so c.in_tree.ensures.sites
