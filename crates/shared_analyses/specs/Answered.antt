-- What a call of shared analyses answers, and what a note knows.
use Rattle.std.specs.Prelude.{◌≡◌, Option, Some, None}
use Rattle.graph_entry.specs.declared.entry.Entry.{Entry}
use Rattle.graph_entry.specs.Specifier.{text_of}
use Rattle.shared_analyses.specs.declared.kept.Kept.{Kept as KeptPair}
use Rattle.shared_analyses.specs.declared.shared.SharedEntry.{SharedEntry}
use Rattle.shared_analyses.specs.declared.shared.SharedEntry.TheVariants.{Kept, Own}
use Rattle.shared_analyses.specs.Shared.{Pair, IsOf}

-- whichever it is, it is what the pair means
abbrev pub IsRight : Pair → SharedEntry → Type 0
IsRight pair (Kept entry) = IsOf pair entry.now
IsRight pair (Own entry) = IsOf pair entry

-- the slot's entry is answered
abbrev pub IsKeptAs : Entry → SharedEntry → Type 0
IsKeptAs entry (Kept shown) = shown.now ≡ entry
IsKeptAs entry (Own made) = ⊥

-- the call made it
abbrev pub IsMade : SharedEntry → Type 0
IsMade (Kept shown) = ⊥
IsMade (Own made) = Unit {0}

-- the kept pair is this one
abbrev pub IsPair : KeptPair → Pair → Type 0
IsPair kept pair = (text_of kept.specifier ≡ text_of pair.0) × (kept.answer ≡ pair.1)

-- the slot keeps this pair, whose entry is answered, or another one
abbrev pub Tells : Pair → KeptPair → SharedEntry → Type 0
Tells pair kept (Kept shown) = IsPair kept pair × (shown.now ≡ kept.entry)
Tells pair kept (Own made) = ¬ IsPair kept pair

-- with an answer a note knows what the slot keeps
abbrev pub Learns : Pair → Option KeptPair → SharedEntry → Type 0
Learns pair (Some kept) answer = Tells pair kept answer
Learns pair None answer = ⊥
