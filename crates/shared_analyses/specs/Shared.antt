-- What shared analyses answer.
use Rattle.std.specs.Prelude.{Some}
use Rattle.url.specs.Parts.{Parts}
use Rattle.graph_entry.specs.declared.answer.LoadAnswer.{LoadAnswer}
use Rattle.graph_entry.specs.declared.entry.Entry.{Entry}
use Rattle.graph_entry.specs.Specifier.{text_of}
use Rattle.graph_entry.specs.Analysed.{Analysed}

-- a specifier and a loader's answer for it
abbrev pub Pair : Type 0
Pair = Parts × LoadAnswer

-- the entry is what the pair means
abbrev pub IsOf : Pair → Entry → Type 0
IsOf pair made = ∥ Analysed (text_of pair.0) (Some pair.1) made ∥₁
