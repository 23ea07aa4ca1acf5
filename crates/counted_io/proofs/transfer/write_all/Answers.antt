-- Each write takes the next part of the text; one that fails leaves the front taken.
use Rattle.std.proofs.Common.{◌≤◌, length, drop, length-drop, ◌∙◌, arith}
use Rattle.std.proofs.lemmas.List.{take_rest}
use Rattle.std.proofs.lemmas.Result.{err_from_is_err_and}
use Rattle.counted_io.proofs.TransferLemmas.{Appends-more, TookPart-front}
use Rattle.counted_io.proofs.transfer.write_all.Goals as goal

pub returns-in_err-n-clause-part : goal.returns-in_err-n-clause-part
returns-in_err-n-clause-part g c =
    let e = err_from_is_err_and c.from_residual.result c.from_residual.ensures.1 in
    rw e.1 (TookPart-front _ _ _ c.args.bytes.now c.rest.at c.rest.invariant.taken c.in_err-n.ensures.bytes)

pub rest-preserved : goal.rest-preserved
rest-preserved g c =
    let n = c.in_ok-n.n in
    let left : n ≤ length (drop c.rest.at c.args.bytes.now) = simp take_rest at c.in_ok-n.ensures.bound.1 in
    record {
      within = omega (arith, left, length-drop c.rest.at c.args.bytes.now, c.rest.invariant.within);
      taken = Appends-more _ _ _ c.args.bytes.now c.rest.at n c.rest.invariant.taken
          (simp take_rest at c.in_ok-n.ensures.bytes);
      count = c.in_ok-n.ensures.count ∙ c.rest.invariant.count;
    }
