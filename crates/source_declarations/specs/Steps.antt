-- What the functions inside the crate promise each other.
use Rattle.std.specs.Prelude.{ℕ, Bool, List, Option, MatchOption}
use Rattle.es_token.specs.declared.token.Token.{Token}
use Rattle.es_token.specs.declared.token.Comment.{Comment}
use Rattle.es_ast.specs.declared.ast.Program.{Program}
use Rattle.media_type.specs.declared.media_type.MediaType.{MediaType}
use Rattle.source_reading.specs.Tree.{IsTree}
use Rattle.source_declarations.specs.declared.read.SourceDeclarations.{SourceDeclarations}
use Rattle.source_declarations.specs.Answers.{AreDeclarations}

-- the declarations of the tree of these tokens, or none where they have no tree
abbrev pub Answers : MediaType → List ℕ → List Token → List Comment → Bool → Option SourceDeclarations → Type 0
Answers media text tokens comments with_comments o =
    MatchOption o ((tree : Program) → ¬ IsTree media text tokens tree)
    (AreDeclarations media text tokens comments with_comments)
