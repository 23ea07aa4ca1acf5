use Rattle.std.proofs.Common.{◌≡◌, drop}
use Rattle.std.specs.List.{list_any}
use Rattle.es_variables.specs.Numbers.{at_in}
use Rattle.es_required.specs.Required.{makes}
use Rattle.es_required.proofs.required.Required.one_makes.Given as goal

-- the marks so far aren't such
abbrev pub invariant-loop-mark : goal.invariant-loop-mark
invariant-loop-mark l =
    list_any (makes l.self.text.now l.self.tokens.now (at_in l.self.ids.now) l.self.marks.now l.at) l.marks
    ≡ list_any (makes l.self.text.now l.self.tokens.now (at_in l.self.ids.now) l.self.marks.now l.at)
    (drop l.mark-index l.marks)
