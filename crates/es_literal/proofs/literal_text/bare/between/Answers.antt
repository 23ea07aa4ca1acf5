-- The text has the quote at both ends.
use Rattle.std.proofs.Common.{Some}
use Rattle.std.proofs.lemmas.Str.Pattern.{strip_prefix_char, strip_suffix_char}
use Rattle.es_literal.proofs.literal_text_lemmas.BareLemmas.{between_quotes}
use Rattle.es_literal.proofs.literal_text.bare.between.Goals as goal

pub returns : goal.returns
returns c =
    let rest = c.in_ok-rest.rest in
    between_quotes c.args.quote c.args.literal.now rest.now c.strip_suffix.result
    (strip_prefix_char c.args.quote c.args.literal.now (Some rest) c.in_ok-rest.ensures.cases c.requires)
    (strip_suffix_char c.args.quote rest.now c.strip_suffix.result c.strip_suffix.ensures.cases c.requires)
