-- The tree of a source: the language and the modes that its media type allows (this project's profile).
use Rattle.std.specs.Prelude.{ℕ, List, [], ◌∷◌, ◌⊎◌, if◌then◌else◌}
use Rattle.es_token.specs.declared.token.Token.{Token}
use Rattle.grammar_theory.specs.declared.error.Lang.{Lang}
use Rattle.grammar_theory.specs.declared.error.Lang.TheVariants.{Es, Typescript}
use Rattle.grammar_theory.specs.declared.error.Mode.{Mode}
use Rattle.grammar_theory.specs.declared.error.Mode.TheVariants.{Script, Module}
use Rattle.es_ast.specs.declared.ast.Program.{Program}
use Rattle.es_lowering.specs.derives.Derives.{Derives}
use Rattle.media_type.specs.declared.media_type.MediaType.{MediaType}
use Rattle.media_type.specs.declared.media_type.MediaType.TheVariants.{Cjs, Cts, Mjs, Mts}
use Rattle.media_type.specs.MediaType.{is_typed}

-- the language of a source
abbrev pub language_of : MediaType → Lang
language_of media = if is_typed media then Typescript else Es

-- the modes in which a source may be read, in their order
abbrev pub modes_of : MediaType → List Mode
modes_of Cjs = Script ∷ []
modes_of Cts = Module ∷ []
modes_of Mjs = Module ∷ []
modes_of Mts = Module ∷ []
modes_of _ = Script ∷ Module ∷ []

-- the tree that the first of these modes derives which derives one
abbrev pub IsFirstTree : Lang → List ℕ → List Token → List Mode → Program → Type 0
IsFirstTree lang text tokens [] tree = ⊥
IsFirstTree lang text tokens (m ∷ modes) tree =
    Derives lang m text tokens tree
    ⊎ (((other : Program) → ¬ Derives lang m text tokens other) × IsFirstTree lang text tokens modes tree)

-- the tree of a source of this media type, whose tokens are these
abbrev pub IsTree : MediaType → List ℕ → List Token → Program → Type 0
IsTree media text tokens tree = IsFirstTree (language_of media) text tokens (modes_of media) tree
