-- What the parser tells of the tree of a source.
use Rattle.std.specs.Prelude.{Result}
use Rattle.std.proofs.Common.{◌≡◌, ℕ, List, [], ◌∷◌, inl, inr}
use Rattle.es_token.specs.declared.token.Token.{Token}
use Rattle.grammar_theory.specs.declared.error.Lang.{Lang}
use Rattle.grammar_theory.specs.declared.error.Mode.{Mode}
use Rattle.grammar_theory.specs.declared.error.SyntaxError.{SyntaxError}
use Rattle.es_ast.specs.declared.ast.Program.{Program}
use Rattle.es_program.specs.Owned.{Owned}
use Rattle.es_lowering.specs.derives.Derives.{Derives}
use Rattle.es_parser.specs.Answers.{GivesTree}
use Rattle.source_reading.specs.Tree.{IsFirstTree}

module _ (lang : Lang) (text : List ℕ) (tokens : List Token) where
  -- a tree of two modes: the one that was read, or what is to be read later
  pub first_given : (m n : Mode) (r : Result (Owned Program) SyntaxError) (p : Program)
      → ((tree : Program) → Derives lang m text tokens tree → GivesTree r tree)
      → ((tree : Program) → Derives lang n text tokens tree → GivesTree r tree)
      → IsFirstTree lang text tokens (m ∷ n ∷ []) p → GivesTree r p
  first_given m n r p one other (inl is) = one p is
  first_given m n r p one other (inr (none, inl is)) = other p is
  first_given m n r p one other (inr (none, inr is)) = absurd is.1
