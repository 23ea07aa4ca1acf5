-- One of the files comes before what isn't part of the sources, and that before the roots.
use Rattle.std.proofs.Common.{◌++◌, map, None, Some}
use Rattle.std.specs.Option.{option_copied}
use Rattle.vendor_run.specs.Readable.{target_of}
use Rattle.vendor_run.proofs.ReadableLemmas.{unread_front, unread_behind}
use Rattle.vendor_run.proofs.readable.first_unread.Goals as goal

pub returns-in-Some-clause-first : goal.returns-in-Some-clause-first
returns-in-Some-clause-first c =
    let plan = c.args.plan.now in
    unread_front (map target_of plan.files) (plan.externals ++ plan.roots) c.in-Some.name.now
    (rw c.as_slice.ensures at c.in-Some.ensures.first)

pub returns-in-Some-unread_among-clause-first : goal.returns-in-Some-unread_among-clause-first
returns-in-Some-unread_among-clause-first c =
    let plan = c.args.plan.now in
    unread_behind (map target_of plan.files) (plan.externals ++ plan.roots) (Some c.in-Some-unread_among.name.now)
    (rw c.as_slice.ensures at c.in_default.ensures.first)
    (unread_front plan.externals plan.roots c.in-Some-unread_among.name.now
    (rw c.as_slice-2.ensures at c.in-Some-unread_among.ensures))

pub returns-clause-first : goal.returns-clause-first
returns-clause-first c =
    let plan = c.args.plan.now in
    unread_behind (map target_of plan.files) (plan.externals ++ plan.roots) (option_copied c.unread_among-2.result)
    (rw c.as_slice.ensures at c.in_default.ensures.first)
    (unread_behind plan.externals plan.roots (option_copied c.unread_among-2.result)
    (rw c.as_slice-2.ensures at c.in_default-unread_among.ensures)
    (rw c.as_slice-3.ensures at c.unread_among-2.ensures))
