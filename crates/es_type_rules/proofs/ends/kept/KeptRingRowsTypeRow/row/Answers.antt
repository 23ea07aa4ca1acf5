use Rattle.std.specs.Prelude.{Some, None}
use Rattle.std.proofs.Common.{◌≡◌, refl}
use Rattle.grammar_theory.specs.declared.error.SyntaxError.TheVariants.{Syntax}
use Rattle.es_lookahead.specs.Ends.{end_in}
use Rattle.es_rules.specs.Steps.{keys_in}
use Rattle.es_type_rules.proofs.ends_lemmas.AngleLemmas.{kept_read, kept_refused}
use Rattle.es_type_rules.proofs.ends.kept.KeptRingRowsTypeRow.row.Goals as goal

-- what is kept ends there
pub returns-in-Some-known : goal.returns-in-Some-known
returns-in-Some-known g c =
    let asked = c.in-Some.ensures in
    let within = c.in-Some-known.is in
    let found : end_in c.args.self.now.room.angles.now c.args.row c.args.cursor.now.at
    ≡ Some (Some c.in-Some-known.end) = cc in
    kept_read c.args.input.now.keeps (keys_in c.args.input.now) c.args.self.now.room.angles.now
    c.args.self.now.room.rows c.args.row c.args.cursor.now.at c.in-Some-known.end c.args.cursor.now.row
    (record { at = c.in-Some-known.end.to; row = c.args.cursor.now.row }) c.requires.rights c.requires.silent found refl
    refl

-- it ends nowhere
pub returns-in-None-known : goal.returns-in-None-known
returns-in-None-known g c =
    let asked = c.in-Some.ensures in
    let within = c.in-None-known.is in
    let found : end_in c.args.self.now.room.angles.now c.args.row c.args.cursor.now.at ≡ Some None = cc in
    kept_refused c.args.input.now.keeps (keys_in c.args.input.now) c.args.self.now.room.angles.now
    c.args.self.now.room.rows c.args.row c.args.cursor.now.at c.args.cursor.now.row c.args.cursor.now
    (Syntax c.args.cursor.now.at) c.requires.rights found refl
