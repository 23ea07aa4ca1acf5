-- One after another.
use Rattle.import_map.proofs.json_reading_lemmas.ReadingLemmas.{IfOk-map}
use Rattle.forms_build.proofs.GraphLemmas.{again_is}
use Rattle.forms_build.proofs.build.reread.Goals as goal

pub returns : goal.returns
returns g c =
    IfOk-map c.with_analyzer.result _ _ (λ b reads.
    again_is g.R.KindResolver.resolving_by_kind c.args.is_allowed c.args.resolver c.args.analyzer
    c.args.build.inner c.in_ok-with_json_without_attribute.field-0.inner c.in_ok-with_resolver.field-0.inner b.inner
    c.in_ok-with_json_without_attribute.ensures c.in_ok-with_resolver.ensures reads) c.with_analyzer.ensures
