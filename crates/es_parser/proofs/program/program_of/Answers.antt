use Rattle.es_parser.proofs.RowLemmas.{held_holds}
use Rattle.es_parser.proofs.program.program_of.Goals as goal

-- the row is the tree that was read
pub new-requires : goal.new-requires
new-requires c =
    rw (c.in_ok-copy.ensures, c.in_ok-copy-2.ensures)
    (held_holds c.args.text.now c.args.tokens.now c.args.row.items c.in_ok-sites.sites c.requires.reads c.requires.typed
    (rw (← c.as_str.ensures, ← c.as_slice.ensures, ← c.as_slice-2.ensures.value) c.in_ok-sites.ensures))
