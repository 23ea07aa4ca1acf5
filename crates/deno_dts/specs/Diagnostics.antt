-- What a diagnostic says.
use Rattle.std.specs.Prelude.{ℕ, List}
use Rattle.dts_rules.specs.declared.found.Found.{Found}
use Rattle.dts_rules.specs.declared.found.FoundKind.{FoundKind}
use Rattle.dts_rules.specs.declared.found.FoundKind.TheVariants as kind
use Rattle.deno_dts.specs.declared.diagnostics.FastCheckDtsDiagnostic.{FastCheckDtsDiagnostic}
use Rattle.deno_dts.specs.declared.diagnostics.FastCheckDtsDiagnostic.TheVariants.{UnableToInferType, UnableToInferTypeFallbackAny, UnableToInferTypeFromProp, UnableToInferTypeFromSpread, UnsupportedUsing}
use Rattle.deno_dts.specs.Places.{Place}

-- where it is
abbrev pub range_of : FastCheckDtsDiagnostic → Place
range_of (UnableToInferType range) = range
range_of (UnableToInferTypeFallbackAny range) = range
range_of (UnableToInferTypeFromProp range) = range
range_of (UnableToInferTypeFromSpread range) = range
range_of (UnsupportedUsing range) = range

-- its kind and its range
abbrev pub found_of : FastCheckDtsDiagnostic → Found
found_of (UnableToInferType range) = record { kind = kind.UnableToInferType; range = range.range }
found_of (UnableToInferTypeFallbackAny range) = record { kind = kind.UnableToInferTypeFallbackAny; range = range.range }
found_of (UnableToInferTypeFromProp range) = record { kind = kind.UnableToInferTypeFromProp; range = range.range }
found_of (UnableToInferTypeFromSpread range) = record { kind = kind.UnableToInferTypeFromSpread; range = range.range }
found_of (UnsupportedUsing range) = record { kind = kind.UnsupportedUsing; range = range.range }

-- the diagnostic of a kind, at a place
abbrev pub diagnostic : FoundKind → Place → FastCheckDtsDiagnostic
diagnostic kind.UnableToInferType range = UnableToInferType range
diagnostic kind.UnableToInferTypeFallbackAny range = UnableToInferTypeFallbackAny range
diagnostic kind.UnableToInferTypeFromProp range = UnableToInferTypeFromProp range
diagnostic kind.UnableToInferTypeFromSpread range = UnableToInferTypeFromSpread range
diagnostic kind.UnsupportedUsing range = UnsupportedUsing range

-- what was found in the module with this specifier
abbrev pub diagnostic_of : List ℕ → Found → FastCheckDtsDiagnostic
diagnostic_of specifier it = diagnostic it.kind (record { specifier = specifier; range = it.range })
