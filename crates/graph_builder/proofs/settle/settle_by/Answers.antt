use Rattle.std.proofs.Common.{◌≡◌, ◌∙◌, ap, sym}
use Rattle.std.proofs.lemmas.Result.{IfOk-weaker}
use Rattle.graph_builder.specs.declared.following.Following.{Following}
use Rattle.graph_builder.specs.Rules.{rules_of}
use Rattle.graph_builder.specs.Settling.{finals_of}
use Rattle.graph_builder.proofs.SettlingLemmas.{finals_by}
use Rattle.graph_builder.proofs.settle.settle_by.Goals as goal

-- what becomes of entries is told by which edges are followed, whatever answers mean
pub returns : goal.returns
returns g c =
    IfOk-weaker c.settle.result _ _
    (λ entries is. is
    ∙ ap (λ (f : Following). finals_of (rules_of f) c.args.firsts) c.following.ensures
    ∙ finals_by (g.W.Ways.means c.args.ways.now) (g.W.Ways.follows c.args.ways.now) c.args.firsts)
    c.settle.ensures
