use Rattle.std.proofs.Common.{refl}
use Rattle.deno_dts.proofs.DraftLemmas.{known_draft}
use Rattle.deno_dts.specs.Drafted.{env_with}
use Rattle.deno_dts.proofs.drafts.drafted.Goals as goal

pub returns : goal.returns
returns c = λ e number numbered.
    known_draft _ number c.args.ranges.now c.args.made c.drafted_with.result _ numbered
    (c.in_ok-known.ensures number numbered)
    (c.drafted_with.ensures e (env_with number c.args.unresolved c.args.ranges.now) (record { are = λ r. refl }))
