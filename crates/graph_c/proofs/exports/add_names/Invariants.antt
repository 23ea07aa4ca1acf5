use Rattle.std.proofs.Common.{◌≡◌, ◌+◌, ◌++◌, length, take, vec_len}
use Rattle.graph_c.specs.Exports.{ranges_from, joined}
use Rattle.graph_c.proofs.exports.add_names.Given as goal

-- the names so far stand behind those that were there
abbrev pub invariant-loop-name : goal.invariant-loop-name
invariant-loop-name l = record {
  names : l.laid.names.items ≡ l.fn.laid.names.items ++ ranges_from (vec_len l.fn.laid.values) (take l.name-index l.names);
  values : l.laid.values.items ≡ l.fn.laid.values.items ++ joined (take l.name-index l.names);
  counted : vec_len l.laid.names ≡ vec_len l.fn.laid.names + l.name-index;
  filled : vec_len l.laid.values ≡ vec_len l.fn.laid.values + length (joined (take l.name-index l.names));
}
