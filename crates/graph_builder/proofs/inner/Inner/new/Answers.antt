use Rattle.std.proofs.Common.{refl, ◌∙◌, ap, List}
use Rattle.url.specs.Parts.{Parts}
use Rattle.graph_entry.specs.Referrer.{starts_by}
use Rattle.graph_builder.specs.Rules.{rules_by}
use Rattle.graph_builder.proofs.ResultLemmas.{inside_new}
use Rattle.graph_builder.proofs.inner.Inner.new.Goals as goal

-- nothing is reached yet
pub invariant_of-result : goal.invariant_of-result
invariant_of-result g c =
    let by = g.W.Ways.resolves c.args.following in
    inside_new (rules_by (g.W.Ways.means c.args.following) (g.W.Ways.follows c.args.following)) by c.args.roots
    c.args.imports _
    (c.in-Ok.ensures ∙ ap (λ (rs : List Parts). starts_by by rs c.as_slice-2.result.now) c.as_slice.ensures
    ∙ ap (starts_by by c.args.roots) c.as_slice-2.ensures)
    refl refl refl c.new.ensures.reached c.new.ensures.next
