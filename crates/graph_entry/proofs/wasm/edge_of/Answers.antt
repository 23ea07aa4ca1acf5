use Rattle.std.proofs.Common.{◌≡◌, ◌∙◌, ap, refl}
use Rattle.url.specs.Parts.{Parts}
use Rattle.url.specs.Parser.{Parsed}
use Rattle.es_site.specs.declared.site.DependencyKind.TheVariants as dependency_kind
use Rattle.graph_entry.specs.Specifier.{text_of}
use Rattle.graph_entry.specs.Resolution.{resolve_by, resolved_by}
use Rattle.graph_entry.proofs.wasm.edge_of.Goals as goal

-- the base is the specifier's text read again, and the text is the name
pub returns : goal.returns
unfolding resolve_by
returns g c =
    let name = c.args.import.now.module.now in
    let asks = g.R.KindResolver.resolving_by_kind c.args.resolver.now dependency_kind.Wasm in
    let found : c.in_ok-resolve_from.field-0 ≡ resolve_by asks (text_of c.args.specifier.now) name
    = c.in_ok-resolve_from.ensures ∙ ap (λ (b : Parsed Parts). resolved_by asks b name) c.requires.again in
    rw (found, c.in_ok-from_str.ensures) refl
