use Rattle.std.proofs.Common.{◌≡◌, ◌∙◌, ◌+◌, length, vec_len, arith}
use Rattle.graph_c.specs.Answer.{texts_of}
use Rattle.graph_c.proofs.AnswerLemmas.{values_more, length_more, records_more}
use Rattle.graph_c.proofs.answer.lay_out.Goals as goal

-- the site's record and texts were put behind the others
pub loop-site-preserved : goal.loop-site-preserved
loop-site-preserved c =
    let found = c.args.found.now in
    let i = c.loop-site.site-index in
    let site = c.site-item.result in
    let start : c.len-start.result ≡ length _ = c.len-start.ensures ∙ c.loop-site.invariant.filled in
    let between : c.in_ok-value_end.value_end ≡ c.len-start.result + length site.value
    = omega (arith, c.in_ok-value_end.ensures.between, c.len-start.ensures) in
    let end : c.len.result ≡ c.len-start.result + length (texts_of site)
    = omega (arith, c.len.ensures, c.in_ok-value_end.ensures.counted, c.len-start.ensures) in
    record {
      sites = records_more found i site c.loop-site.sites.items c.push.new.self.items c.record_of.result
          c.len-start.result c.in_ok-value_end.value_end
          c.len.result c.loop-site-test.true c.site-item.is c.loop-site.invariant.sites start between end
          c.record_of.ensures c.in_ok-push.ensures.items;
      values = values_more found i site c.loop-site.values.items c.add_texts.new.values.items
          c.loop-site-test.true c.site-item.is c.loop-site.invariant.values c.in_ok-value_end.ensures.texts;
      counted = omega (arith, c.in_ok-push.ensures.len, c.loop-site.invariant.counted);
      filled = length_more found i site (vec_len c.loop-site.values) (vec_len c.add_texts.new.values)
          c.loop-site-test.true c.site-item.is c.loop-site.invariant.filled c.in_ok-value_end.ensures.counted;
    }
