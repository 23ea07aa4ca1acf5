use Rattle.std.specs.Prelude.{Some}
use Rattle.dts_rules.specs.Ranges.{implements}
use Rattle.dts_overloads.specs.Heads.{head_of}
use Rattle.dts_overloads.proofs.ListLemmas.{added_one}
use Rattle.dts_overloads.proofs.lists.add_body.Goals as goal

pub returns-then-follows : goal.returns-then-follows
returns-then-follows c =
    added_one c.args.found.now c.push.new.self c.args.it.now.span
    (implements (Some (head_of c.args.before.now)) (Some (head_of c.args.it.now))) c.in_ok-push.ensures.ok
    c.if-follows.ensures
