-- Words of views: which alternatives, and that parts take fewer entries.
use Rattle.std.specs.Prelude.{◌≡◌, ◌<◌, ◌≤◌, Bool, true, false, List, [], ◌∷◌, length, Option, Some, None, if◌then◌else◌}
use Rattle.es_grammar.specs.declared.rows.NodeKind.{NodeKind}
use Rattle.es_lowering.specs.Lowering.{same_label}
use Rattle.es_syntax.specs.declared.entry.What.{What}
use Rattle.es_syntax.specs.declared.entry.What.TheVariants as vWhat
use Rattle.es_syntax.specs.declared.cursor.Siblings.{Siblings}
use Rattle.es_syntax.specs.declared.cursor.Item.{Item}

-- it is one of these
abbrev pub is_one_of : List NodeKind → NodeKind → Bool
is_one_of [] label = false
is_one_of (first ∷ others) label = if same_label label first then true else is_one_of others label

-- no node of one of these alternatives
abbrev pub IsNone : List NodeKind → What → Type 0
IsNone labels (vWhat.Node label) = is_one_of labels label ≡ false
IsNone labels _ = Unit {0}

-- a part takes fewer entries, and parts no more
abbrev pub Under : Item → Siblings → Type 0
Under part whole = length part.parts.entries.now < length whole.entries.now

abbrev pub Within : Siblings → Siblings → Type 0
Within parts whole = length parts.entries.now ≤ length whole.entries.now

abbrev pub MaybeUnder : Option Item → Siblings → Type 0
MaybeUnder (Some part) whole = Under part whole
MaybeUnder None whole = Unit {0}
