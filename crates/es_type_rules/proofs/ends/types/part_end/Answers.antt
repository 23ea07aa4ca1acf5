use Rattle.std.specs.Prelude.{Some}
use Rattle.std.proofs.Common.{ap}
use Rattle.es_type_rules.proofs.ends_lemmas.AnswerLemmas.{reaches, one_end, no_reach, none_reaches}
use Rattle.es_type_rules.proofs.ends.types.part_end.Goals as goal

-- what is read is too tall, and nothing else is derived
pub returns-then-height-room-clause-only : goal.returns-then-height-room-clause-only
returns-then-height-room-clause-only c = λ to of.
    no_reach c.args.part c.args.tokens.now c.args.room c.args.at c.in-Ok.ensures.0 c.in-Ok.height
    c.read_part.new.cursor.at to c.requires.place c.requires.room c.in-Ok.ensures.2 c.if-height-room.true of

pub returns-in-Ok-clause-some : goal.returns-in-Ok-clause-some
returns-in-Ok-clause-some c =
    reaches c.args.part c.args.tokens.now c.args.room c.args.at c.in-Ok.ensures.0 c.in-Ok.height
    c.read_part.new.cursor.at c.in-Ok.ensures.2 c.if-height-room.false

pub returns-in-Ok-clause-only : goal.returns-in-Ok-clause-only
returns-in-Ok-clause-only c = λ to of.
    ap Some (one_end c.args.part c.args.tokens.now c.args.room c.args.at c.in-Ok.ensures.0 c.in-Ok.height
    c.read_part.new.cursor.at to c.requires.place c.requires.room c.in-Ok.ensures.2 of).0

-- nothing is read, so nothing is derived
pub returns-clause-only : goal.returns-clause-only
returns-clause-only c = λ to of.
    none_reaches c.args.part c.args.tokens.now c.args.room c.args.at to c.requires.place c.requires.room
    (c.in-Err.ensures.1 tt) of
