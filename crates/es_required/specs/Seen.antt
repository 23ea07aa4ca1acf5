-- The rules by what a walk has at hand, and the parts of a node by them.
use Rattle.std.specs.Prelude.{List}
use Rattle.es_syntax.specs.declared.entry.Entry.{Entry}
use Rattle.es_walk.specs.declared.step.Path.{Path}
use Rattle.es_walk.specs.Part.{follow}
use Rattle.es_walk.specs.Rows.{parts_of}
use Rattle.es_walk.specs.Walk.{Analysis}
use Rattle.es_required.specs.declared.given.Making.{Making}
use Rattle.es_required.specs.declared.steps.Place.{Place}
use Rattle.es_required.specs.declared.steps.Way.{Way}
use Rattle.es_required.specs.declared.steps.Act.{Act}
use Rattle.es_required.specs.declared.steps.Mark.{Mark}
use Rattle.es_required.specs.Required.{Parts, rules}

abbrev pub rules_of : Making → Analysis Place Way Act (Unit {0}) Mark
rules_of f = rules f.text.now f.tokens.now

abbrev pub seen : Making → List Entry → Parts
seen f es = parts_of (rules_of f) es

abbrev pub seen_at : Making → List Entry → Path → Parts
seen_at f es at = follow (seen f es) at
