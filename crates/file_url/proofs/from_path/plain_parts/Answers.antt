use Rattle.std.proofs.Common.{rules, tests, lit<}
use Rattle.std.proofs.lemmas.Iterator.Consumers.{map_from_collect, YieldsList-from_filter}
use Rattle.std.proofs.lemmas.Iterator.Splits.{YieldsList-from_str_split}
use Rattle.file_url.specs.FileUrls.{is_plain}
use Rattle.file_url.proofs.from_path.plain_parts.Goals as goal

pub returns : goal.returns
returns c =
    map_from_collect _ c.collect.ensures.ran
    (YieldsList-from_filter _ is_plain
    (YieldsList-from_str_split 47 c.args.path.now (lit< tt) (cc) (cc) (cc))
    c.filter.ensures.closure (λ x r q k. search (rules, tests)))
