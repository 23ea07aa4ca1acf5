use Rattle.std.proofs.Common.{◌≡◌, ◌∙◌, ap, List, ℕ, refl}
use Rattle.url.specs.Parts.{Parts}
use Rattle.url.specs.Parser.{Parsed}
use Rattle.graph_entry.specs.Specifier.{text_of}
use Rattle.graph_entry.specs.Resolution.{resolve_by, resolved_by}
use Rattle.graph_entry.specs.Steps.{read_of}
use Rattle.graph_entry.proofs.analysis.dependency_of.Goals as goal

-- the base is the specifier's text read again, and the text is the site's value
pub returns : goal.returns
unfolding resolve_by
returns g c =
    let s = text_of c.args.source.specifier.now in
    let asks = g.R.KindResolver.resolving_by_kind c.args.resolver.now c.args.site.kind in
    let found : c.in_ok-resolution.resolution ≡ resolve_by asks s c.args.site.value
    = c.in_ok-resolution.ensures
    ∙ ap (λ (t : List ℕ). resolved_by asks (read_of c.args.source.base.now) t) c.as_str.ensures
    ∙ ap (λ (b : Parsed Parts). resolved_by asks b c.args.site.value) c.requires in
    rw found refl
