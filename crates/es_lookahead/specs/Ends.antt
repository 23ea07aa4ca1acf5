-- Where type arguments and type parameters end: what is known of places, when it is right, and how it is found.
use Rattle.std.specs.Prelude.{◌≡◌, ℕ, zero, suc, ◌≤◌, ◌/◌, ltb, leb, Bool, true, false, List, [], ◌∷◌, length, take, drop, slice_get, Option, Some, None, if◌then◌else◌}
use Rattle.grammar_theory.specs.Key.{Key}
use Rattle.grammar_theory.specs.Plain.{Plain, plain, none_leans, tall}
use Rattle.grammar_theory.specs.Fits.{most_nodes}
use Rattle.grammar_theory.specs.Reader.{Out, nothing, gives, read_row}
use Rattle.es_grammar.specs.declared.types.rows.TypeRow.{TypeRow}
use Rattle.es_grammar.specs.declared.types.rows.TypeRow.TheVariants.{ArgumentsRow, TypeParametersRow}
use Rattle.es_grammar.specs.types.TypeRows.{NodeKind}
use Rattle.es_grammar.specs.types.TypeTable.{type_rule}
use Rattle.es_lookahead.specs.declared.ends.End.{End}
use Rattle.es_lookahead.specs.declared.ends.Angle.{Angle}

-- the end of what was read, where no path of it has too many nodes
abbrev pub end_of : Out (Plain NodeKind) → Option End
end_of nothing = None
end_of (gives p to) =
    if leb (tall none_leans p) most_nodes then Some (record { to = to; height = tall none_leans p }) else None

-- where a row of types ends that begins at a place, in as much room as any tree needs
unfoldable pub row_end : TypeRow → List Key → ℕ → Option End
row_end r K at = end_of (read_row plain K type_rule most_nodes r at)

-- what is known of places is so of each of them
abbrev pub IsRight : List Key → Angle → Type 0
IsRight K angle =
    (q : ℕ) → angle.first ≤ q → q ≤ angle.at
    → (row_end ArgumentsRow K q ≡ angle.arguments) × (row_end TypeParametersRow K q ≡ angle.parameters)

abbrev pub AreRight : List Key → List Angle → Type 0
AreRight K angles = (i : ℕ) (angle : Angle) → slice_get angles i ≡ Some angle → IsRight K angle

-- what is known of a place, by what stands in the middle of the angles, and is known by those behind it and before it
abbrev pub at_half : ℕ → Option Angle → Option Angle → Option Angle → Option Angle
at_half at None behind front = None
at_half at (Some angle) behind front =
    if ltb at angle.first then behind else (if ltb angle.at at then front else Some angle)

-- what is known of a place, by halves
unfoldable pub angle_at : ℕ → List Angle → ℕ → Option Angle
angle_at zero angles at = None
angle_at (suc n) angles at =
    at_half at (slice_get angles (length angles / 2)) (angle_at n (drop (length angles / 2) angles) at)
    (angle_at n (take (length angles / 2) angles) at)

-- what is known of a row there
abbrev pub end_by : TypeRow → Option Angle → Option (Option End)
end_by ArgumentsRow (Some angle) = Some angle.arguments
end_by TypeParametersRow (Some angle) = Some angle.parameters
end_by r a = None

abbrev pub end_in : List Angle → TypeRow → ℕ → Option (Option End)
end_in angles r at = end_by r (angle_at 64 angles at)
