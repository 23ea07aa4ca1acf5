use Rattle.std.proofs.Common.{◌≡◌, ◌∙◌, ap, subst, List, ℕ}
use Rattle.std.proofs.lemmas.Result.{IfOk-weaker}
use Rattle.graph_entry.specs.Specifier.{text_of}
use Rattle.source_text.specs.module_text.ModuleText.{without_mark}
use Rattle.graph_entry.specs.Ways.{kind_ways_by}
use Rattle.graph_entry.specs.Analysed.{OfText, with_text}
use Rattle.graph_entry.proofs.analysis.analyse_bytes.Goals as goal

-- what the text makes, less its mark
pub returns-in-Ok : goal.returns-in-Ok
returns-in-Ok g c =
    let read = c.in-Ok.ensures in
    let same : c.without_mark.result ≡ without_mark c.args.bytes = c.without_mark.ensures ∙ ap without_mark read.0 in
    let ways = kind_ways_by (g.R.KindResolver.resolving_by_kind c.args.resolver.now) (g.M.ModuleAnalyzer.reads c.args.analyzer.now) in
    IfOk-weaker c.analyse_text.result _ _
    (λ made is. with_text read.1
    (subst (λ (t : List ℕ). OfText ways (text_of c.args.source.specifier.now) c.args.source.media_type t made) same is))
    c.analyse_text.ensures
