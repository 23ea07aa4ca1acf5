-- A parsed source of which the tree is that of its text.
use Rattle.std.specs.Prelude.{List}
use Rattle.grammar_theory.specs.declared.error.Lang.{Lang}
use Rattle.grammar_theory.specs.declared.error.Mode.{Mode}
use Rattle.source_reading.specs.Read.{IsRead}
use Rattle.deno_ast.specs.Parsed.{Parsed}

-- its text is read as its tree, in some language and the first of some modes that derives one, and its comments refer to
-- its references
pub record IsOwnTree (s : Parsed) : Type 0 where
  pub lang : Lang
  pub modes : List Mode
  pub read : IsRead lang modes s.media_type s.text s.tree.typed s.references
