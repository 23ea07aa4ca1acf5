use Rattle.std.proofs.Common.{◌∙◌, ap, sym, arith}
use Rattle.std.specs.Option.{option_copied}
use Rattle.import_map.specs.Order.{match_of_entry}
use Rattle.import_map.proofs.TableLemmas.{scoped_start, scoped_found, scoped_missed, scoped_end, scoped_within, front_in_order}
use Rattle.import_map.proofs.table.front_match.Goals as goal

pub loop-end-init : goal.loop-end-init
loop-end-init c =
    rw c.min-end.ensures
    (scoped_start c.args.fronts c.args.text.now c.args.referrer.now c.args.scopes.now c.args.most
    c.requires.in_order.keys c.requires.within c.requires.absent)

pub match_at-requires : goal.match_at-requires
match_at-requires c =
    rw c.front_at.ensures
    (front_in_order c.args.scopes.now c.args.referrer.now c.loop-end.end c.requires.in_order.each)

pub returns-in-Some : goal.returns-in-Some
returns-in-Some c =
    sym (scoped_found c.args.fronts c.args.text.now c.args.referrer.now c.args.scopes.now c.loop-end.end
    c.in-Some.found.now c.loop-end.invariant c.loop-end-test.true
    (sym (ap (match_of_entry c.args.fronts c.args.text.now) c.front_at.ensures) ∙ sym c.match_at.ensures
    ∙ ap option_copied c.in-Some.is))

pub longest_front-end-requires-clause-within : goal.longest_front-end-requires-clause-within
longest_front-end-requires-clause-within c = omega (arith, c.loop-end.invariant.within)

pub loop-end-preserved : goal.loop-end-preserved
loop-end-preserved c =
    scoped_within c.args.fronts c.args.text.now c.args.referrer.now c.args.scopes.now _ c.longest_front-end.result
    (scoped_missed c.args.fronts c.args.text.now c.args.referrer.now c.args.scopes.now c.loop-end.end
    c.requires.in_order.keys c.loop-end.invariant c.loop-end-test.true
    (sym (ap (match_of_entry c.args.fronts c.args.text.now) c.front_at.ensures) ∙ sym c.match_at.ensures
    ∙ ap option_copied c.in_default.is))
    c.longest_front-end.ensures.fronts c.longest_front-end.ensures.within

pub returns : goal.returns
returns c =
    sym (scoped_end c.args.fronts c.args.text.now c.args.referrer.now c.args.scopes.now c.loop-end.end
    c.loop-end.invariant c.loop-end-test.false)
