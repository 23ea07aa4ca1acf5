-- Ranges that are added where they are told.
use Rattle.std.specs.Prelude.{List, Option, Some, None}
use Rattle.std.proofs.Common.{◌≡◌, sym, ap, subst, ◌∙◌}
use Rattle.base.specs.declared.range.Range.{Range}
use Rattle.dts_rules.specs.Ranges.{has_range}
use Rattle.dts_overloads.specs.Among.{Among, none, ◌∪◌}
use Rattle.dts_overloads.specs.Met.{Told, both}
use Rattle.dts_overloads.specs.Left.{Gives, Takes}
use Rattle.dts_overloads.proofs.Laws.{or_none, or_assoc}

pub gives_none : (f : List Range) → Gives (Some none) f f
gives_none f = sym (or_none (has_range f))

pub takes_all : (all : Told) (f : List Range) → Takes all all f f
takes_all all f = record { takes = λ new g. g }

pub takes_same : (all left : Told) (f : List Range) → left ≡ all → Takes all left f f
takes_same all left f e = record { takes = λ new g. subst (λ (t : Told). Gives t f new) e g }

-- ranges that are added at once, and others after them
pub gives_both : (a b : Told) (old mid new : List Range) → Gives a old mid → Gives b mid new
    → Gives (both a b) old new
gives_both None b old mid new g h = tt
gives_both (Some a) None old mid new g h = tt
gives_both (Some a) (Some b) old mid new g h =
    h ∙ ap (λ (z : Among). z ∪ b) g ∙ or_assoc (has_range old) a b
