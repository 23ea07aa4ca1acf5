use Rattle.std.proofs.Common.{ap, sym, refl, arith}
use Rattle.graph_entry.specs.Specifier.{text_of}
use Rattle.graph_builder.proofs.NumberLemmas.{key_of_number}
use Rattle.graph_builder.proofs.ReachingLemmas.{reached_already, reached_push, overfull_here, key_last}
use Rattle.graph_builder.proofs.reaching.Reaching.reach.Goals as goal

pub returns-in-Some-clause-grows : goal.returns-in-Some-clause-grows
returns-in-Some-clause-grows c =
    reached_already c.args.self.now (text_of c.args.url.now) c.in-Some.number (sym c.in-Some.ensures.value)
    c.requires.room

pub returns-in-Some-clause-number : goal.returns-in-Some-clause-number
returns-in-Some-clause-number c =
    key_of_number c.args.self.now.reached (text_of c.args.url.now) c.in-Some.number (sym c.in-Some.ensures.value)

pub returns-then-before-self-clause-grows : goal.returns-then-before-self-clause-grows
returns-then-before-self-clause-grows c =
    rw c.count-before.ensures.len
    (overfull_here c.args.self.now.reached (text_of c.args.url.now) c.args.self.now.limit c.count-before.ensures.once
    (sym c.in-None.ensures.value)
    (omega (arith, c.requires.room.room, c.count-before.ensures.len, c.if-before-self.true)))

pub returns-in-Ok-clause-grows : goal.returns-in-Ok-clause-grows
returns-in-Ok-clause-grows c =
    reached_push c.args.self.now
    (record { reached = c.add.new.self; next = c.args.self.now.next; limit = c.args.self.now.limit })
    (text_of c.args.url.now) c.in_ok-clone.field-0 (sym c.in-None.ensures.value)
    (ap text_of c.in_ok-clone.ensures.cases)
    c.in-Ok.ensures.ok refl refl c.requires.room
    (omega (arith, c.count-before.ensures.len, c.if-before-self.false))

pub returns-in-Ok-clause-number : goal.returns-in-Ok-clause-number
returns-in-Ok-clause-number c =
    key_last c.args.self.now.reached c.add.new.self c.in_ok-clone.field-0 (text_of c.args.url.now) c.count-before.result
    (ap text_of c.in_ok-clone.ensures.cases) c.count-before.ensures.len c.in-Ok.ensures.ok
