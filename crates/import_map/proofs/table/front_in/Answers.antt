use Rattle.std.proofs.Common.{◌∙◌, ap, sym, arith}
use Rattle.std.specs.Option.{option_copied}
use Rattle.import_map.proofs.TableLemmas.{match_start, match_found, match_missed, match_within, match_end}
use Rattle.import_map.proofs.table.front_in.Goals as goal

pub loop-end-init : goal.loop-end-init
loop-end-init c = match_start c.args.text.now c.args.table.now c.requires.absent

pub returns-in-Some : goal.returns-in-Some
returns-in-Some c =
    sym (match_found c.args.text.now c.args.table.now c.loop-end.end c.in-Some.found.now c.loop-end.invariant
    c.loop-end-test.true (sym c.front_at.ensures ∙ ap option_copied c.in-Some.is))

pub longest_front-end-requires-clause-within : goal.longest_front-end-requires-clause-within
longest_front-end-requires-clause-within c = omega (arith, c.loop-end.invariant.within)

pub loop-end-preserved : goal.loop-end-preserved
loop-end-preserved c =
    match_within c.args.text.now c.args.table.now _ c.longest_front-end.result
    (match_missed c.args.text.now c.args.table.now c.loop-end.end c.loop-end.invariant
    c.loop-end-test.true (sym c.front_at.ensures ∙ ap option_copied c.in_default.is))
    c.longest_front-end.ensures.fronts c.longest_front-end.ensures.within

pub returns : goal.returns
returns c =
    sym (match_end c.args.text.now c.args.table.now c.loop-end.end c.loop-end.invariant c.loop-end-test.false)
