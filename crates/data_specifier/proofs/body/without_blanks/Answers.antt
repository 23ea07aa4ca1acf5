use Rattle.std.proofs.Common.{rules}
use Rattle.std.proofs.lemmas.Fn.{filter_same}
use Rattle.data_specifier.specs.Blanks.{without_blanks}
use Rattle.data_specifier.proofs.body.without_blanks.Goals as goal

pub returns : goal.returns
unfolding without_blanks
returns c = filter_same _ _ _ (λ x b f says. search rules) _ _ c.retain.ensures.filtered
