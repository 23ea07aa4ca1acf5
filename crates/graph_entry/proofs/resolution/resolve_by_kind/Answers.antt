use Rattle.std.proofs.Common.{◌≡◌, subst, IfOk}
use Rattle.url.specs.Parts.{Parts}
use Rattle.url.specs.Parser.{Parsed}
use Rattle.graph_entry.specs.Resolution.{resolve_by, resolved_by}
use Rattle.graph_entry.proofs.resolution.resolve_by_kind.Goals as goal

-- the base is the referrer's text read again
pub returns : goal.returns
unfolding resolve_by
returns g c =
    let asks = g.R.KindResolver.resolving_by_kind c.args.resolver.now c.args.kind in
    let P : Parsed Parts → Type 0 = λ b. IfOk c.resolve_from.result
    (λ r. r ≡ resolved_by asks b c.args.text.now) in
    subst P c.in_ok-base.ensures c.resolve_from.ensures
