use Rattle.std.proofs.Common.{◌≡◌, length, take, vec_len}
use Rattle.graph_c.specs.Answer.{records_from, values_of}
use Rattle.graph_c.proofs.answer.lay_out.Given as goal

-- a record and the value of each site so far
abbrev pub invariant-loop-site : goal.invariant-loop-site
invariant-loop-site l = record {
  sites : l.sites.items ≡ records_from 0 (take l.site-index l.found);
  values : l.values.items ≡ values_of (take l.site-index l.found);
  counted : vec_len l.sites ≡ l.site-index;
  filled : vec_len l.values ≡ length (values_of (take l.site-index l.found));
}
