use Rattle.std.proofs.Common.{◌∙◌, ap, sym}
use Rattle.std.specs.Option.{option_copied}
use Rattle.import_map.proofs.TableLemmas.{match_whole}
use Rattle.import_map.proofs.table.match_in.Goals as goal

pub returns-in-Some : goal.returns-in-Some
returns-in-Some c =
    sym (match_whole c.args.fronts c.args.text.now c.args.table.now c.in-Some.found.now
    (sym c.at.ensures ∙ ap option_copied c.in-Some.is))
