use Rattle.std.proofs.Common.{◌≡◌, ◌∙◌, arith}
use Rattle.graph_c.proofs.ExportLemmas.{ranges_more, texts_more, length_more}
use Rattle.graph_c.proofs.exports.add_names.Goals as goal

-- the name was put behind the others
pub loop-name-preserved : goal.loop-name-preserved
loop-name-preserved c =
    let names = c.args.names.now in
    let i = c.loop-name.name-index in
    let name = c.name-item.result in
    record {
      names = ranges_more names i name _ _ _ _ _ c.loop-name-test.true c.name-item.is c.loop-name.invariant.names
          c.loop-name.invariant.filled c.in_ok-add_name.ensures.names;
      values = texts_more names i name _ _ _ c.loop-name-test.true c.name-item.is c.loop-name.invariant.values
          c.in_ok-add_name.ensures.values;
      counted = omega (arith, c.in_ok-add_name.ensures.counted, c.loop-name.invariant.counted);
      filled = length_more names i name _ _ _ c.loop-name-test.true c.name-item.is c.loop-name.invariant.filled
          c.in_ok-add_name.ensures.filled;
    }
