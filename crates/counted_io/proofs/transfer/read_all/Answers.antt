-- Each read gives the next bytes; a read of nothing ends the source.
use Rattle.std.proofs.Common.{◌+◌, ◌∙◌, refl, arith}
use Rattle.std.proofs.lemmas.List.{length-take}
use Rattle.std.proofs.KnownBytes.{Consumes-nil, Keeps-refl}
use Rattle.counted_io.specs.Transfer.{input_limit}
use Rattle.counted_io.proofs.TransferLemmas.{Consumes-grown, ReadAtMost-none, ReadAtMost-more}
use Rattle.counted_io.proofs.transfer.read_all.Goals as goal

pub parts-init : goal.parts-init
parts-init g c = record {
  within = omega (arith, c.new-bytes.ensures.len);
  chunk = c.in_ok-chunk.ensures;
  given = rw c.new-bytes.ensures.items (Consumes-nil (g.S.Source.left c.args.source.now));
  count = refl;
}

pub returns-then-n-eq0-clause-value : goal.returns-then-n-eq0-clause-value
returns-then-n-eq0-clause-value g c = Consumes-grown _ _ _ _ _ c.parts.invariant.given c.in_ok-n.ensures.given

pub parts-preserved : goal.parts-preserved
parts-preserved g c = let h1 = c.in_ok-n.ensures.bound in let h2 = c.take_part.auto in record {
  within = omega (
    arith,
    c.in_ok-n.ensures.len,
    c.in_ok-n.ensures.bound,
    c.min-want.ensures,
    c.len.ensures,
    c.len-in-parts.ensures,
    c.parts-test.true,
    length-take c.min-want.result c.deref_mut.result.now,
  );
  chunk = c.parts.invariant.chunk;
  given = Consumes-grown _ _ _ _ _ c.parts.invariant.given c.in_ok-n.ensures.given;
  count = c.in_ok-n.ensures.count ∙ c.parts.invariant.count;
}

-- ---- no more than one byte too many is read

pub returns-clause-stops : goal.returns-clause-stops
returns-clause-stops g c = (c.parts.bytes.items, omega (arith, c.parts.invariant.within), c.parts.invariant.given)

pub returns-then-n-eq0-clause-stops : goal.returns-then-n-eq0-clause-stops
returns-then-n-eq0-clause-stops g c =
    ReadAtMost-more _ _ _ _ _ (input_limit + 1) c.parts.invariant.given c.take_part.ensures.stops
    (omega (
      arith,
      c.min-want.ensures,
      c.len.ensures,
      c.len-in-parts.ensures,
      c.parts-test.true,
      length-take c.min-want.result c.deref_mut.result.now,
    ))

pub returns-in_err-n-clause-stops : goal.returns-in_err-n-clause-stops
returns-in_err-n-clause-stops g c =
    ReadAtMost-more _ _ _ _ _ (input_limit + 1) c.parts.invariant.given c.take_part.ensures.stops
    (omega (
      arith,
      c.min-want.ensures,
      c.len.ensures,
      c.len-in-parts.ensures,
      c.parts-test.true,
      length-take c.min-want.result c.deref_mut.result.now,
    ))

pub returns-in_err-chunk-clause-stops : goal.returns-in_err-chunk-clause-stops
returns-in_err-chunk-clause-stops g c = ReadAtMost-none _ _ _ (Keeps-refl (g.S.Source.left c.args.source.now))
