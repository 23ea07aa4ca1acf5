use Rattle.es_rules.specs.Steps.{keys_in}
use Rattle.es_type_rules.proofs.ends_lemmas.AngleLemmas.{kept_below}
use Rattle.es_type_rules.proofs.ends.kept.+read_kept.Goals as goal

pub returns : goal.returns
returns t c =
    kept_below c.args.input.keeps (keys_in c.args.input) c.args.room.angles.now c.args.room.rows c.args.row
    c.args.cursor.now.at c.args.cursor.now.row c.read.new.cursor c.read.result c.if-room-eq0.false c.read.ensures
