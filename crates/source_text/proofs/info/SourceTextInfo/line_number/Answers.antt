use Rattle.std.proofs.Common.{leb, rules}
use Rattle.std.proofs.lemmas.List.Sorted.{IsPartitionPoint-from_clause, IsPartitionedBy-leb}
use Rattle.source_text.proofs.LinesLemmas.{rises, lines_up_to, table_at}
use Rattle.source_text.proofs.info.SourceTextInfo.line_number.Goals as goal

-- the starts up to the place are those of its line and of the lines before
pub returns : goal.returns
returns c =
    let text = c.args.self.now in
    let starts = c.deref.result.now in
    let table = table_at c.self.inside.text text c.self.inside.line_starts.items starts c.self.invariant c.self.view_is
    c.deref.ensures.value in
    let parted = IsPartitionedBy-leb (λ x. x) starts c.args.pos (rises text starts table) in
    let point = IsPartitionPoint-from_clause (λ x. leb x c.args.pos) starts c.partition_point.result
    c.partition_point.ensures.partitioned parted (λ a r q k. search rules) in
    lines_up_to text starts c.args.pos c.partition_point.result table c.requires c.partition_point.ensures.bound point
