-- What a transformer knows, and what it has done so far.
use Rattle.std.specs.Prelude.{◌≡◌, List, [], ◌++◌, map}
use Rattle.dts_rules.specs.declared.found.Found.{Found}
use Rattle.dts_rules.specs.Sets.{Numbers}
use Rattle.dts_rules.specs.Rules.{Env, State}
use Rattle.url.specs.Parts.{serialize}
use Rattle.es_ast.specs.declared.ast.Program.{Program}
use Rattle.dts_rules.specs.Programs.{declared}
use Rattle.deno_dts.specs.declared.declaring.Declared.{Declared}
use Rattle.deno_dts.specs.declared.diagnostics.FastCheckDtsDiagnostic.{FastCheckDtsDiagnostic}
use Rattle.deno_dts.specs.declared.transformer.FastCheckDtsTransformer.{FastCheckDtsTransformer}
use Rattle.deno_dts.specs.Diagnostics.{found_of, diagnostic_of}
use Rattle.deno_dts.specs.Drafted.{env_with, state_after}

abbrev pub state_of_declared : Declared → State
state_of_declared it = state_after it.found it.made

-- ---- of a transformer
abbrev pub env_of : Numbers → FastCheckDtsTransformer → Env
env_of number it = env_with number it.unresolved_context it.public_ranges.now

-- its diagnostics, without the specifier
abbrev pub found_in : FastCheckDtsTransformer → List Found
found_in it = map found_of it.diagnostics.items

-- what was found so far, and how many names were made
abbrev pub state_in : FastCheckDtsTransformer → State
state_in it = state_after (found_in it) it.made

-- diagnostics of what was found in its module, each with its specifier
abbrev pub diagnosed : FastCheckDtsTransformer → List Found → List FastCheckDtsDiagnostic
diagnosed it found = map (diagnostic_of (serialize it.specifier.now)) found

-- its diagnostics with those of a program, whose names have these numbers
abbrev pub diagnostics_with : Numbers → FastCheckDtsTransformer → Program → List FastCheckDtsDiagnostic
diagnostics_with number it p =
    it.diagnostics.items ++ diagnosed it (declared (env_of number it) p (state_after [] it.made)).1.found

-- a list begins with these
abbrev pub Begins : {A : Type 0} → List A → List A → Type 0
Begins {A} front all = (others : List A) × (all ≡ front ++ others)
