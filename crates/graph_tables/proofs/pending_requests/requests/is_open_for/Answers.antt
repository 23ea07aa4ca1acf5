use Rattle.std.proofs.Common.{rules, ◌≡◌, ◌<◌, false, get_or, length, arith}
use Rattle.graph_tables.proofs.pending_requests_lemmas.RequestLemmas.{from_unmarked}
use Rattle.graph_tables.proofs.pending_requests.requests.is_open_for.Goals as goal

pub returns-then-not-marks-at-clause-next : goal.returns-then-not-marks-at-clause-next
returns-then-not-marks-at-clause-next c _ =
    let off : get_or c.args.marks.now c.args.at false ≡ false = search rules in
    from_unmarked c.args.marks.now c.args.all.now c.args.url.now c.args.at false c.requires.within
    (omega (arith, c.requires.even, c.requires.within)) off
