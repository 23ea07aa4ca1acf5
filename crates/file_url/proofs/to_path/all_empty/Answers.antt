use Rattle.std.proofs.Common.{◌∙◌, sym, rules, tests, List, ℕ, Bor}
use Rattle.std.proofs.lemmas.Iterator.{YieldsList-from_slice}
use Rattle.std.proofs.lemmas.Iterator.Search.{all_from_yields_List}
use Rattle.file_url.specs.WindowsPaths.{is_empty_part}
use Rattle.file_url.proofs.TextsLemmas.{list_all-texts}
use Rattle.file_url.proofs.to_path.all_empty.Goals as goal

pub returns : goal.returns
returns c =
    all_from_yields_List (λ (y : Bor (List ℕ)). is_empty_part y.now) _ _ _ c.all.ensures.ran
    (YieldsList-from_slice c.args.segments.now (cc))
    (λ x b q k. search (rules, tests))
    ∙ sym (list_all-texts is_empty_part c.args.segments.now)
