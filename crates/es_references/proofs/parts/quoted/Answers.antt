use Rattle.std.proofs.Common.{sym, lit<, None}
use Rattle.std.proofs.lemmas.Str.Pattern.{strip_prefix_char}
use Rattle.es_references.proofs.PartsLemmas.{quoted-other}
use Rattle.es_references.proofs.parts.quoted.Goals as goal

-- it begins with no quote
pub returns-in-None : goal.returns-in-None
returns-in-None c =
    let text = c.args.text.now in
    sym (quoted-other text (strip_prefix_char 34 text None c.in_default.ensures.cases (lit< tt))
    (strip_prefix_char 39 text None c.in-None.ensures.cases (lit< tt)))
