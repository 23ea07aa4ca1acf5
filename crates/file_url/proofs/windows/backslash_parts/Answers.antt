use Rattle.std.proofs.Common.{rules, tests, lit<, List, ℕ}
use Rattle.std.specs.Prelude.{not}
use Rattle.std.proofs.lemmas.Iterator.Adapters.{YieldsList-from_skip_while}
use Rattle.std.proofs.lemmas.Iterator.Consumers.{map_from_collect, YieldsList-from_filter}
use Rattle.std.proofs.lemmas.Iterator.Splits.{YieldsList-from_str_split}
use Rattle.lexical_path.specs.Paths.{is_dots}
use Rattle.file_url.specs.WindowsPaths.{is_empty_part}
use Rattle.file_url.proofs.windows.backslash_parts.Goals as goal

pub returns : goal.returns
returns c =
    map_from_collect _ c.collect.ensures.ran
    (YieldsList-from_skip_while _ _ _ is_empty_part _ (λ x r q k. search (rules, tests))
    (YieldsList-from_filter _ (λ (part : List ℕ). not (is_dots part))
    (YieldsList-from_str_split 92 c.args.path.now (lit< tt) (cc) (cc) (cc))
    (cc) (λ x r q k. search (rules, tests)))
    (cc) (cc))
