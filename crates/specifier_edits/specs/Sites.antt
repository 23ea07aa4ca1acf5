-- The sites of a text, and which of them are literals of its program.
use Rattle.std.specs.Prelude.{◌≡◌, ℕ, Bool, true, false, List, [], ◌++◌, ◌⊎◌}
use Rattle.es_token.specs.declared.token.Token.{Token}
use Rattle.es_token.specs.declared.token.Comment.{Comment}
use Rattle.es_lexer.specs.Reads.{Reads}
use Rattle.grammar_theory.specs.declared.error.Lang.{Lang}
use Rattle.grammar_theory.specs.declared.error.Mode.{Mode}
use Rattle.es_ast.specs.declared.ast.Program.{Program}
use Rattle.es_site.specs.declared.site.Site.{Site}
use Rattle.es_site.specs.declared.site.DependencyKind.{DependencyKind}
use Rattle.es_site.specs.declared.site.DependencyKind.TheVariants.{ReferencePath, ReferenceTypes}
use Rattle.es_site.specs.Sites.{sites_of}
use Rattle.es_references.specs.References.{references_of}
use Rattle.es_lowering.specs.derives.Derives.{Derives}

-- these are the sites of the text, as it is read in some language and some mode: those of reference comments, where
-- they count, and then those of the tree
pub record AreSites (text : List ℕ) (sites : List Site) : Type 0 where
  pub tokens : List Token
  pub comments : List Comment
  pub reads : Reads text tokens comments
  pub lang : Lang
  pub mode : Mode
  pub tree : Program
  pub derived : Derives lang mode text tokens tree
  pub references : List Site
  pub refer : (references ≡ []) ⊎ (references ≡ references_of tokens comments)
  pub both : sites ≡ references ++ sites_of tree

-- sites of this kind stand in comments
abbrev pub is_reference : DependencyKind → Bool
is_reference ReferencePath = true
is_reference ReferenceTypes = true
is_reference _ = false

-- the site is a string literal of the program
abbrev pub IsLiteral : Site → Type 0
IsLiteral site = is_reference site.kind ≡ false
