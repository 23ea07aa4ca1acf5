-- What is answered of tokens: the sites of the tree that is derived from them.
use Rattle.std.specs.Prelude.{◌≡◌, ℕ, List, Result, Ok, Err}
use Rattle.es_token.specs.declared.token.Token.{Token}
use Rattle.grammar_theory.specs.declared.error.Lang.{Lang}
use Rattle.grammar_theory.specs.declared.error.Mode.{Mode}
use Rattle.grammar_theory.specs.declared.error.SyntaxError.{SyntaxError}
use Rattle.grammar_theory.specs.declared.error.SyntaxError.TheVariants.{Syntax, OutOfMemory}
use Rattle.es_ast.specs.declared.ast.Program.{Program}
use Rattle.es_site.specs.declared.site.Site.{Site}
use Rattle.es_site.specs.Sites.{sites_of}
use Rattle.es_lowering.specs.derives.Derives.{Derives}
use Rattle.media_type.specs.declared.media_type.MediaType.{MediaType}
use Rattle.source_reading.specs.Tree.{modes_of, IsFirstTree, IsTree}

-- they are those of a tree of which P holds
pub record AreOf (P : Program → Type 0) (found : List Site) : Type 0 where
  pub tree : Program
  pub is : P tree
  pub sites : found ≡ sites_of tree

-- those of this tree, or "out of memory"
abbrev pub GivesSites : Result (List Site) SyntaxError → Program → Type 0
GivesSites (Ok found) tree = found ≡ sites_of tree
GivesSites (Err (Syntax token)) tree = ⊥
GivesSites (Err OutOfMemory) tree = Unit {0}

-- those of the tree of a source of this media type with these tokens, in this language
abbrev pub AreSitesIn : Lang → MediaType → List ℕ → List Token → List Site → Type 0
AreSitesIn lang media text tokens found = AreOf (IsFirstTree lang text tokens (modes_of media)) found

-- the same in the language of the media type
abbrev pub AreSitesOf : MediaType → List ℕ → List Token → List Site → Type 0
AreSitesOf media text tokens found = AreOf (IsTree media text tokens) found
