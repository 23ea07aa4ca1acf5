-- Place by place, up to the text's end.
use Rattle.std.proofs.Common.{sym, ap, arith, ◌∙◌}
use Rattle.es_comments.specs.Standing.{begins_line_end}
use Rattle.es_comments.proofs.LineLemmas.{between_none, between_here, between_more, between_end, between_upto, rest_is}
use Rattle.es_comments.proofs.place.has_line_end.Goals as goal

pub loop-at-init : goal.loop-at-init
loop-at-init c = between_none c.args.text.now c.args.from c.args.from (omega arith)

pub returns-then-begins_line_end : goal.returns-then-begins_line_end
returns-then-begins_line_end c =
    sym
    (between_here c.args.text.now c.args.from c.loop-at.at c.args.upto c.loop-at.auto.at
    (omega (arith, c.min-end.ensures))
    (ap begins_line_end (sym (rest_is c.args.text.now c.loop-at.at))
    ∙ (sym c.begins_line_end.ensures ∙ c.if-begins_line_end.true)))

pub loop-at-preserved : goal.loop-at-preserved
loop-at-preserved c =
    between_more c.args.text.now c.args.from c.loop-at.at c.loop-at.auto.at c.loop-at.invariant
    (ap begins_line_end (sym (rest_is c.args.text.now c.loop-at.at))
    ∙ (sym c.begins_line_end.ensures ∙ c.if-begins_line_end.false))

pub returns : goal.returns
returns c =
    sym
    (between_end c.args.text.now c.args.from c.args.upto
    (rw (← c.min-end.ensures)
    (between_upto c.args.text.now c.args.from c.loop-at.at c.min-end.result c.loop-at.invariant c.loop-at-test.false
    c.loop-at.auto.at-end)))
