-- The rules by what a walk has at hand, and the parts of a node by them.
use Rattle.std.specs.Prelude.{List}
use Rattle.es_syntax.specs.declared.entry.Entry.{Entry}
use Rattle.es_site.specs.declared.site.Site.{Site}
use Rattle.es_variables.specs.Numbers.{at_in}
use Rattle.es_walk.specs.declared.step.Path.{Path}
use Rattle.es_walk.specs.Part.{follow}
use Rattle.es_walk.specs.Rows.{parts_of}
use Rattle.es_walk.specs.Walk.{Analysis}
use Rattle.es_forms.specs.declared.given.Finding.{Finding}
use Rattle.es_forms.specs.declared.steps.Place.{Place}
use Rattle.es_forms.specs.declared.steps.Way.{Way}
use Rattle.es_forms.specs.declared.steps.Act.{Act}
use Rattle.es_forms.specs.Forms.{Parts, rules}

abbrev pub rules_of : Finding → Analysis Place Way Act (Unit {0}) Site
rules_of f = rules f.text.now f.tokens.now (at_in f.ids.now) f.chosen f.marks.now

abbrev pub seen : Finding → List Entry → Parts
seen f es = parts_of (rules_of f) es

abbrev pub seen_at : Finding → List Entry → Path → Parts
seen_at f es at = follow (seen f es) at
