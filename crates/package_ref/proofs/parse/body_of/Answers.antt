use Rattle.std.proofs.Common.{◌∙◌, ap, ◌==◌}
use Rattle.std.specs.List.{before_first}
use Rattle.package_ref.proofs.AnswerLemmas.{before_both}
use Rattle.package_ref.proofs.parse.body_of.Goals as goal

pub returns : goal.returns
returns c =
    c.before_query.ensures ∙ ap (λ t. before_first (λ b. b == 63) t) c.before_fragment.ensures
    ∙ before_both c.args.rest.now
