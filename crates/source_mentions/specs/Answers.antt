-- What is answered of the tokens of a source: what its tree mentions, in the first mode that gives one.
use Rattle.std.specs.Prelude.{◌≡◌, ℕ, Bool, List, [], ◌∷◌, Result, Ok, Err, ◌⊎◌}
use Rattle.es_token.specs.declared.token.Token.{Token}
use Rattle.grammar_theory.specs.declared.error.Lang.{Lang}
use Rattle.grammar_theory.specs.declared.error.Mode.{Mode}
use Rattle.grammar_theory.specs.declared.error.SyntaxError.{SyntaxError}
use Rattle.grammar_theory.specs.declared.error.SyntaxError.TheVariants.{Syntax, OutOfMemory}
use Rattle.grammar_theory.specs.Key.{Key, keys_of}
use Rattle.es_grammar.specs.declared.cst.tree.Cst.{Cst}
use Rattle.es_program_reader.specs.Program.{IsKept}
use Rattle.es_mentions.specs.declared.listed.Mention.{Mention}
use Rattle.es_mentions.specs.Mentions.{mentions}
use Rattle.media_type.specs.declared.media_type.MediaType.{MediaType}
use Rattle.source_reading.specs.Tree.{language_of, modes_of}

-- the tree of a program in the first of these modes in which these keys have one
abbrev pub IsFirst : Lang → List Key → List Mode → Cst → Type 0
IsFirst lang K [] tree = ⊥
IsFirst lang K (m ∷ modes) tree =
    IsKept lang m K tree ⊎ (((other : Cst) → ¬ IsKept lang m K other) × IsFirst lang K modes tree)

-- the tree of a source of this media type, whose tokens are these
abbrev pub IsTreeOf : MediaType → List Token → Cst → Type 0
IsTreeOf media tokens tree = IsFirst (language_of media) (keys_of tokens) (modes_of media) tree

-- what a tree mentions of which P holds
pub record AreOf (P : Cst → Type 0) (text : List ℕ) (tokens : List Token) (allowed : List (List ℕ)) (strict : Bool)
    (found : List Mention) : Type 0 where
  pub tree : Cst
  pub is : P tree
  pub all : found ≡ mentions text tokens allowed strict tree

-- what the tree of a source of this media type mentions
abbrev pub AreMentions : MediaType → List ℕ → List Token → List (List ℕ) → Bool → List Mention → Type 0
AreMentions media text tokens allowed strict found = AreOf (IsTreeOf media tokens) text tokens allowed strict found

-- this list, or "out of memory"
abbrev pub Gives : Result (List Mention) SyntaxError → List Mention → Type 0
Gives (Ok found) all = found ≡ all
Gives (Err (Syntax token)) all = ⊥
Gives (Err OutOfMemory) all = Unit {0}
