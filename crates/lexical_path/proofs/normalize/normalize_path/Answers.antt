use Rattle.std.proofs.Common.{ap, sym, ◌∙◌}
use Rattle.std.specs.Cow.{cow_str_bytes}
use Rattle.lexical_path.specs.Paths.{normal_path}
use Rattle.lexical_path.proofs.Theorems.{normal_path_again}
use Rattle.lexical_path.proofs.normalize.normalize_path.Goals as goal

-- the answer is a normalized path
pub returns-clause-again : goal.returns-clause-again
returns-clause-again c =
    let path = cow_str_bytes c.args.path in
    ap normal_path c.in_ok-normal.ensures ∙ normal_path_again path ∙ sym c.in_ok-normal.ensures
