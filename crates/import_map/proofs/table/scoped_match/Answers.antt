use Rattle.std.proofs.Common.{◌∙◌, ap, sym}
use Rattle.std.specs.Option.{option_copied}
use Rattle.import_map.specs.Order.{match_of_entry}
use Rattle.import_map.proofs.TableLemmas.{scoped_whole, scope_in_order}
use Rattle.import_map.proofs.table.scoped_match.Goals as goal

pub match_at-requires : goal.match_at-requires
match_at-requires c = rw c.at.ensures (scope_in_order c.args.scopes.now c.args.referrer.now c.requires.in_order.each)

pub returns-in-Some : goal.returns-in-Some
returns-in-Some c =
    sym (scoped_whole c.args.fronts c.args.text.now c.args.referrer.now c.args.scopes.now c.in-Some.found.now
    (sym (ap (match_of_entry c.args.fronts c.args.text.now) c.at.ensures) ∙ sym c.match_at.ensures
    ∙ ap option_copied c.in-Some.is))
