-- The modes that a media type allows, as the code has them.
use Rattle.std.specs.Prelude.{List, [], ◌∷◌}
use Rattle.grammar_theory.specs.declared.error.Mode.{Mode}
use Rattle.grammar_theory.specs.declared.error.Mode.TheVariants as mode
use Rattle.source_sites.specs.declared.modes.Modes.{Modes}
use Rattle.source_sites.specs.declared.modes.Modes.TheVariants.{Only, ScriptFirst}

-- the modes that are allowed, in their order
abbrev pub modes_in : Modes → List Mode
modes_in (Only m) = m ∷ []
modes_in ScriptFirst = mode.Script ∷ mode.Module ∷ []
