use Rattle.std.proofs.Common.{◌≡◌, ◌+◌, ◌++◌, length, take, vec_len}
use Rattle.graph_session.specs.Records.{edge_records, all_edge_texts}
use Rattle.graph_session.proofs.records.lay_edges.Given as goal

-- a record and the texts of each edge so far
abbrev pub invariant-loop-edge : goal.invariant-loop-edge
invariant-loop-edge l = record {
  edges : l.edges.items ≡ edge_records l.graph.numbered (vec_len l.fn.texts) (take l.edge-index l.found);
  texts : l.texts.items ≡ l.fn.texts.items ++ all_edge_texts (take l.edge-index l.found);
  counted : vec_len l.edges ≡ l.edge-index;
  filled : vec_len l.texts ≡ vec_len l.fn.texts + length (all_edge_texts (take l.edge-index l.found));
}
