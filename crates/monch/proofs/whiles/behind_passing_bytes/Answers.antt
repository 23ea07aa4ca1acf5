use Rattle.std.proofs.Common.{◌≡◌, ◌<◌, ◌+◌, length, drop, get_or, inl, inr, [], rules, arith, subst, sym, ap}
use Rattle.std.proofs.lemmas.Grind.{common_steps}
use Rattle.std.proofs.lemmas.Str.{IsCharBoundary-start, IsCharBoundary-after_ascii}
use Rattle.monch.specs.Leaves.{IsPassingBytes}
use Rattle.monch.proofs.FrontLemmas.{IsPassingBytes-none, IsPassingBytes-more, IsPassingBytes-rest, drop_at, passing_is_ascii}
use Rattle.monch.proofs.whiles.behind_passing_bytes.Goals as goal
use Rattle.monch.proofs.whiles.behind_passing_bytes.Goals.{else-loop-end-test, then-loop-end-test+then-not-passes}

-- nothing is passed at the start
pub loop-end-init : goal.loop-end-init
loop-end-init g c = (search rules, IsCharBoundary-start c.args.text.now c.utf8.text, λ front rest more. (front, more))

-- the byte that passed is ASCII, and goes before each front
pub loop-end-preserved : goal.loop-end-preserved
loop-end-preserved g c =
    let test = c.loop-end-test.true in
    let len = c.as_bytes-bytes.ensures.len in
    let same = c.as_bytes-bytes.ensures.value in
    let inside : c.loop-end.end < length c.args.text.now = omega arith in
    let ascii : get_or c.args.text.now c.loop-end.end 0 < 128 =
    subst (λ x. get_or x c.loop-end.end 0 < 128) same
    (passing_is_ascii (λ b answer. g.F.Fn.post c.args.passes.now (b, tt) answer) _ c.requires.ascii (search rules)
    c.if-not-passes.ensures) in (
      omega arith,
      IsCharBoundary-after_ascii c.args.text.now c.loop-end.end c.utf8.text inside ascii,
      λ front rest more. c.loop-end.invariant.2 _ rest
          (IsPassingBytes-more _ _ _ front rest _ (drop_at _ _ _ same inside) c.if-not-passes.ensures more),
    )

-- the bytes are at their end, or the next one does not pass
pub returns : goal.returns
returns g c =
    let same = c.as_bytes-bytes.ensures.value in
    let len = c.as_bytes-bytes.ensures.len in
    elim c.loop-end-test.branch [
      | else-loop-end-test w ↦
          let test = w.loop-end-test.false in
          let ended : drop c.loop-end.end c.args.text.now ≡ [] = grind (arith, common_steps) in
          let stopped = c.loop-end.invariant.2 [] _ (IsPassingBytes-none _ _ (inl ended)) in
          (stopped.0, IsPassingBytes-rest _ _ _ _ _ c.range_from.ensures.value stopped.1)
      | then-loop-end-test+then-not-passes w ↦
          let test = w.loop-end-test.true in
          let inside : c.loop-end.end < length c.args.text.now = omega arith in
          let stopped =
          c.loop-end.invariant.2 [] _
          (IsPassingBytes-none _ _ (inr (_, _, drop_at _ _ _ same inside, w.if-not-passes.ensures))) in
          (stopped.0, IsPassingBytes-rest _ _ _ _ _ c.range_from.ensures.value stopped.1)
    ]
