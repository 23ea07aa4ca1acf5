-- What a source is read as by choice: its sites, after them those of further forms, and in which language.
use Rattle.std.specs.Prelude.{◌≡◌, ℕ, Bool, true, false, if◌then◌else◌, List, [], ◌∷◌, ◌++◌, ◌⊎◌, Option, Ok, Err}
use Rattle.base.specs.declared.range.Range.{Range}
use Rattle.es_token.specs.declared.token.Token.{Token}
use Rattle.es_lexer.specs.Reads.{ReadsTokens}
use Rattle.grammar_theory.specs.declared.error.Lang.{Lang}
use Rattle.grammar_theory.specs.declared.error.Lang.TheVariants as lang
use Rattle.grammar_theory.specs.declared.error.Mode.{Mode}
use Rattle.grammar_theory.specs.Key.{Key, keys_of}
use Rattle.es_grammar.specs.declared.cst.tree.Cst.{Cst}
use Rattle.es_site.specs.declared.site.Site.{Site}
use Rattle.es_syntax.specs.declared.entry.Entry.{Entry}
use Rattle.es_program_reader.specs.Derived.{IsRowOf}
use Rattle.es_program_reader.specs.Program.{IsKept}
use Rattle.es_forms.specs.declared.chosen.Forms.{Forms}
use Rattle.es_forms.specs.Chosen.{is_any}
use Rattle.es_forms.specs.Forms.{forms_in}
use Rattle.media_type.specs.declared.media_type.MediaType.{MediaType}
use Rattle.media_type.specs.declared.media_type.MediaType.TheVariants.{Tsx}
use Rattle.media_type.specs.MediaType.{is_typed}
use Rattle.parse_diagnostic.specs.declared.kind.SyntaxErrorKind.{SyntaxErrorKind}
use Rattle.source_reading.specs.Tree.{language_of, modes_of}
use Rattle.source_reading.specs.Read.{HasSitesIn, IsRefused, IsFaulty}
use Rattle.graph_entry.specs.Reading.{Sites, Reading, ReadsSource, diagnosis_at}

-- ---- languages

abbrev pub is_tsx : MediaType → Bool
is_tsx Tsx = true
is_tsx _ = false

-- the language of a source where all forms are read
abbrev pub full_language : MediaType → Lang
full_language media = if is_typed media then (if is_tsx media then lang.Tsx else lang.Wide) else lang.Jsx

-- ---- sources

-- the plain tree in the first of these modes in which there is one
abbrev pub IsFirstKept : Lang → List Key → List Mode → Cst → Type 0
IsFirstKept lang K [] tree = ⊥
IsFirstKept lang K (m ∷ modes) tree =
    IsKept lang m K tree ⊎ (((other : Cst) → ¬ IsKept lang m K other) × IsFirstKept lang K modes tree)

-- the row is that tree
pub record HoldsFirst (lang : Lang) (K : List Key) (modes : List Mode) (es : List Entry) : Type 0 where
  pub tree : Cst
  pub row : IsRowOf tree es
  pub first : IsFirstKept lang K modes tree

-- the sites of these forms in a source, by the tree that it is read as in this language
pub record HasChosen (chosen : Forms) (l : Lang) (media : MediaType) (text : List ℕ) (found : List Site) : Type 0 where
  pub tokens : List Token
  pub reads : ReadsTokens text tokens
  pub tree : Cst
  pub first : IsFirstKept l (keys_of tokens) (modes_of media) tree
  pub forms : found ≡ forms_in chosen text tokens tree

-- its sites, and after them those of these forms
pub record HasForms (chosen : Forms) (l : Lang) (media : MediaType) (text : List ℕ) (found : List Site) : Type 0 where
  pub sites : List Site
  pub has : HasSitesIn l media text sites
  pub more : List Site
  pub has_more : HasChosen chosen l media text more
  pub both : found ≡ sites ++ more

-- its sites, and after them those of these forms where there are any
abbrev pub HasBy : Bool → Forms → Lang → MediaType → List ℕ → List Site → Type 0
HasBy true chosen = HasForms chosen
HasBy false chosen = HasSitesIn

-- what a source is read as, of which so much is told, in its media type's language
pub data ReadsAs (Has : Lang → MediaType → List ℕ → List Site → Type 0) (s : List ℕ) (media : MediaType)
    (text : List ℕ) (sites : Sites) : Type 0 where
  -- what it has
  with_forms : (found : List Site) → Has (language_of media) media text found → sites ≡ Ok found
      → ReadsAs Has s media text sites
  -- it is no program: the fault
  no_program : (kind : SyntaxErrorKind) (range : Option Range) → IsFaulty media text kind range
      → sites ≡ Err (diagnosis_at s kind range) → ReadsAs Has s media text sites

-- the same, or where it is no program there, in the language in which all forms are read
pub data ReadsElse (Has : Lang → MediaType → List ℕ → List Site → Type 0) (s : List ℕ) (media : MediaType)
    (text : List ℕ) (sites : Sites) : Type 0 where
  in_own : (found : List Site) → Has (language_of media) media text found → sites ≡ Ok found
      → ReadsElse Has s media text sites
  in_full : (kind : SyntaxErrorKind) (range : Option Range) → IsFaulty media text kind range → (found : List Site)
      → Has (full_language media) media text found → sites ≡ Ok found → ReadsElse Has s media text sites
  -- it is no program in either: the fault is the first one's
  in_none : (kind : SyntaxErrorKind) (range : Option Range) → IsFaulty media text kind range
      → (other : SyntaxErrorKind) (place : Option Range)
      → IsRefused (full_language media) (modes_of media) text other place
      → sites ≡ Err (diagnosis_at s kind range) → ReadsElse Has s media text sites

-- where there are further forms, or none, and where all forms are read, or those of the media type's language
abbrev pub ReadsWhere : Bool → Forms → Bool → Reading
ReadsWhere any chosen true = ReadsElse (HasBy any chosen)
ReadsWhere true chosen false = ReadsAs (HasForms chosen)
ReadsWhere false chosen false = ReadsSource

-- where these are chosen
abbrev pub ReadsBy : Forms → Bool → Reading
ReadsBy chosen all = ReadsWhere (is_any chosen) chosen all
