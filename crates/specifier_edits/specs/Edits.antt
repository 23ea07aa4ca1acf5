-- The changes that put other specifiers at sites, and what the new text is to the old one.
use Rattle.std.specs.Prelude.{◌≡◌, ℕ, ◌+◌, ◌≤◌, nat_le, Bool, true, false, not, ◌&&◌, List, [], ◌∷◌, ◌++◌, map, chars, encode_utf8_all, slice_get, Option, Some, None, All, String, string_bytes}
use Rattle.base.specs.declared.range.Range.{Range}
use Rattle.es_literal.specs.Quotes.{quoted}
use Rattle.es_token.specs.declared.token.Token.{Token}
use Rattle.es_token.specs.declared.token.Comment.{Comment}
use Rattle.es_lexer.specs.Reads.{Reads}
use Rattle.es_site.specs.declared.site.Site.{Site}
use Rattle.grammar_theory.specs.declared.error.Lang.{Lang}
use Rattle.grammar_theory.specs.declared.error.Mode.{Mode}
use Rattle.es_ast.specs.declared.ast.Program.{Program}
use Rattle.es_site.specs.Sites.{CutsLiteral, sites_of}
use Rattle.media_type.specs.declared.media_type.MediaType.{MediaType}
use Rattle.source_reading.specs.Read.{IsRead}
use Rattle.es_law_edits.specs.sites.Moved.{SitesMove, attributes_of}
use Rattle.es_law_edits.specs.trees.Changed.{moved_program}
use Rattle.source_text.specs.declared.text_changes.change.TextChange.{TextChange}
use Rattle.es_law_edits.specs.tokens.Moved.{moved, range_to, token_to, comment_to, cut, text_to}
use Rattle.specifier_edits.specs.Sites.{is_reference, IsLiteral}

-- ---- numbers of sites, from 0, with new specifiers

-- the numbers ascend, from this one on, and each is that of a literal among the sites
abbrev pub NamesLiterals : {A : Type 0} → List Site → ℕ → List (ℕ × String A) → Type 0
NamesLiterals sites from [] = Unit {0}
NamesLiterals sites from (change ∷ changes) =
    (site : Site) × (slice_get sites change.0 ≡ Some site) × IsLiteral site × (from ≤ change.0)
    × NamesLiterals sites (change.0 + 1) changes

-- the range of a site
abbrev pub range_of : Option Site → Range
range_of (Some site) = site.range
range_of None = record { start = 0; end = 0 }

-- the literal at the site gives way to one in double quotes, whose value is the new specifier
abbrev pub edit : List Site → ℕ → List ℕ → TextChange
edit sites number specifier =
    record { range = range_of (slice_get sites number); new_text = encode_utf8_all (quoted (chars specifier)) }

abbrev pub edits : {A : Type 0} → List Site → List (ℕ × String A) → List TextChange
edits sites changes = map (λ change. edit sites change.0 (string_bytes change.1)) changes

-- ---- the new text

-- it is read as the tokens and the comments of the old one, moved
abbrev pub ReadsMoved : List ℕ → List TextChange → List ℕ → Type 0
ReadsMoved text changes new =
    (tokens : List Token) (comments : List Comment) → Reads text tokens comments
    → Reads new (map (token_to (moved changes)) tokens) (map (comment_to (moved changes)) comments)

-- a token stands for its old text, or for the new literal that was put in its place
abbrev pub KeepsTexts : List ℕ → List TextChange → List ℕ → Type 0
KeepsTexts text changes new =
    (tokens : List Token) (comments : List Comment) (n : ℕ) (token : Token) → Reads text tokens comments
    → slice_get tokens n ≡ Some token → cut new (range_to (moved changes) token.range) ≡ text_to changes text token.range

-- where each of these sites moved to, a string literal of its new specifier stands
abbrev pub CutsSpecifiers : {A : Type 0} → List Site → List (ℕ × String A) → List ℕ → Type 0
CutsSpecifiers sites changes new =
    All (λ change. CutsLiteral new (range_to (moved (edits sites changes)) (range_of (slice_get sites change.0)))
    (string_bytes change.1)) changes

-- the text is read in this language and these modes as this tree, moved; so its sites are those of this tree, moved;
-- its comments refer as these do
pub record ReadsMovedTree (lang : Lang) (modes : List Mode) (media : MediaType) (numbered : List Site)
    (changes : List TextChange) (new : List ℕ) (tree : Program) (references : List Site) : Type 0 where
  pub other : Program
  pub read : IsRead lang modes media new other references
  pub moves : other ≡ moved_program changes tree
  pub sites : SitesMove changes (sites_of tree) (sites_of other)
  -- in the reading whose sites were numbered, attributes stay
  pub attributes : numbered ≡ references ++ sites_of tree
      → attributes_of (sites_of other) ≡ attributes_of (sites_of tree)

-- so it is in each language and by each modes in which the old text is read as a tree
abbrev pub KeepsSites : {A : Type 0} → List ℕ → List Site → List (ℕ × String A) → List ℕ → Type 0
KeepsSites text sites changes new =
    (lang : Lang) (modes : List Mode) (media : MediaType) (tree : Program) (references : List Site)
    → IsRead lang modes media text tree references
    → ReadsMovedTree lang modes media sites (edits sites changes) new tree references

-- ---- whether numbers name literals

-- the site is a literal, and its number isn't below this one
abbrev pub is_named : Option Site → ℕ → ℕ → Bool
is_named (Some site) from number = not (is_reference site.kind) && nat_le from number
is_named None from number = false

abbrev pub name_literals : {A : Type 0} → List Site → ℕ → List (ℕ × String A) → Bool
name_literals sites from [] = true
name_literals sites from (change ∷ changes) =
    is_named (slice_get sites change.0) from change.0 && name_literals sites (change.0 + 1) changes
