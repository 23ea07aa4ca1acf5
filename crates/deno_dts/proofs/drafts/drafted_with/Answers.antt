use Rattle.deno_dts.proofs.DraftLemmas.{started, with_draft}
use Rattle.deno_dts.proofs.drafts.drafted_with.Goals as goal

pub returns : goal.returns
returns c = λ e by listed.
    with_draft c.args.env.now by c.args.made c.new-draft.result c.declared_program.new.out _ c.new-draft.ensures.row
    (started c.new-draft.result c.args.made (rw c.new-draft.ensures.found c.new-found.ensures.items)
    c.new-draft.ensures.made)
    (c.declared_program.ensures.written e by listed)
