use Rattle.std.proofs.Common.{◌++◌, sym, ap, ◌∙◌, arith}
use Rattle.std.proofs.lemmas.List.{append-nil}
use Rattle.es_syntax.specs.Trees.{first_tree, trees}
use Rattle.es_mentions.specs.Left.{events_in, ahead, weight}
use Rattle.es_mentions.proofs.LeftLemmas.{ahead_none, ahead_more, weight_more}
use Rattle.es_mentions.proofs.nodes.events.Goals as goal

pub loop-frame-init : goal.loop-frame-init
loop-frame-init c =
    let whole = events_in c.args.source.now.text.now c.args.source.now.tokens.now c.args.source.now.script
    c.args.source.now.strict (first_tree (trees c.args.row.now.entries.now)) in
    ap (λ s. s ++ ahead c.args.source.now.text.now c.args.source.now.tokens.now c.args.source.now.script
    c.args.source.now.strict c.put.new.stack) c.new-out.ensures
    ∙ c.in_ok-put.ensures.marks
    ∙ ap (λ s. whole ++ s)
    (ap (ahead c.args.source.now.text.now c.args.source.now.tokens.now c.args.source.now.script
    c.args.source.now.strict) c.new-stack.ensures
    ∙ ahead_none c.args.source.now.text.now c.args.source.now.tokens.now c.args.source.now.script
    c.args.source.now.strict)
    ∙ append-nil whole

pub loop-frame-smaller : goal.loop-frame-smaller
loop-frame-smaller c =
    let before = ap weight c.in-Some.ensures ∙ weight_more c.pop.new.self c.in-Some.frame in
    omega (arith, before, c.in_ok-advance.ensures.less)

pub loop-frame-preserved : goal.loop-frame-preserved
loop-frame-preserved c =
    c.in_ok-advance.ensures.marks
    ∙ ap (λ s. c.loop-frame.out ++ s)
    (sym (ap (ahead c.args.source.now.text.now c.args.source.now.tokens.now c.args.source.now.script
    c.args.source.now.strict) c.in-Some.ensures
    ∙ ahead_more c.args.source.now.text.now c.args.source.now.tokens.now c.args.source.now.script
    c.args.source.now.strict c.pop.new.self c.in-Some.frame))
    ∙ c.loop-frame.invariant

pub returns : goal.returns
returns c =
    sym (append-nil c.loop-frame.out)
    ∙ ap (λ s. c.loop-frame.out ++ s)
    (sym (ap (ahead c.args.source.now.text.now c.args.source.now.tokens.now c.args.source.now.script
    c.args.source.now.strict) c.in_default.ensures.0
    ∙ ahead_none c.args.source.now.text.now c.args.source.now.tokens.now c.args.source.now.script
    c.args.source.now.strict))
    ∙ c.loop-frame.invariant
