-- Why a text is no program, as it is told.
use Rattle.std.specs.Prelude.{◌≡◌, ℕ, List}
use Rattle.grammar_theory.specs.declared.error.Lang.{Lang}
use Rattle.grammar_theory.specs.declared.error.Mode.{Mode}
use Rattle.media_type.specs.declared.media_type.MediaType.{MediaType}
use Rattle.parse_diagnostic.specs.declared.diagnostic.ParseFault.{ParseFault}
use Rattle.parse_diagnostic.specs.declared.diagnostic.ParseFault.TheVariants.{Diagnostic, OutOfMemory}
use Rattle.parse_diagnostic.specs.Diagnosis.{Diagnosis, told_range, IsShown}
use Rattle.source_reading.specs.Read.{IsRefused, IsFaulty}

-- why a text at a specifier isn't read in any of these modes: the range of a fault among the tokens is left free
abbrev pub IsFaultIn : List ℕ → Lang → List Mode → List ℕ → Diagnosis → Type 0
IsFaultIn specifier lang modes text d =
    (d.specifier ≡ specifier) × IsRefused lang modes text d.kind (told_range d.kind d.range) × IsShown text d

-- why a text of this media type at a specifier is no program: the range of a fault among the tokens is left free
abbrev pub IsFaultAt : List ℕ → MediaType → List ℕ → Diagnosis → Type 0
IsFaultAt specifier media text d =
    (d.specifier ≡ specifier) × IsFaulty media text d.kind (told_range d.kind d.range) × IsShown text d

-- a refusal is such a fault, unless memory ran out
abbrev pub Refuses : (Diagnosis → Type 0) → ParseFault → Type 0
Refuses P (Diagnostic d) = P d
Refuses P OutOfMemory = Unit {0}
