-- The sites that were found are those of the text.
use Rattle.std.proofs.Common.{◌≡◌, ◌∙◌, refl, sym, ap, subst, ℕ, List, [], ◌++◌, length, Option, Some, None, arith}
use Rattle.std.specs.Prelude.{MatchOption, IsUtf8}
use Rattle.std.proofs.Math.Seq.{take-length}
use Rattle.es_token.specs.declared.token.Token.{Token}
use Rattle.es_token.specs.declared.token.Comment.{Comment}
use Rattle.es_lexer.specs.Reads.{Reads}
use Rattle.es_site.specs.declared.site.Site.{Site}
use Rattle.es_site.specs.Sites.{sites_of}
use Rattle.media_type.specs.declared.media_type.MediaType.{MediaType}
use Rattle.media_type.specs.declared.media_type.ModuleKind.{ModuleKind}
use Rattle.media_type.specs.declared.media_type.ModuleKind.TheVariants.{Source, Json, Wasm}
use Rattle.media_type.specs.MediaType.{kind_of}
use Rattle.source_reading.specs.Tree.{language_of, modes_of}
use Rattle.source_reading.specs.Read.{IsRead, references_in}
use Rattle.specifier_edits.specs.Sites.{AreSites}
use Rattle.specifier_edits.proofs.Theorems.{read_sites}
use Rattle.graph_c.specs.declared.text.NoText.{NoText}
use Rattle.graph_c.specs.declared.text.NoText.TheVariants.{TooLong, NoUtf8}
use Rattle.graph_c.specs.declared.finding.Finding.{Finding}
use Rattle.graph_c.specs.declared.finding.Finding.TheVariants.{Found, NoMediaType}
use Rattle.graph_c.specs.Text.{IsText, IsNoText}
use Rattle.graph_c.specs.MediaTypes.{media_type_at}
use Rattle.graph_c.specs.Finding.{IsFinding, OfKind, OfBytes, with_text, no_text, OfText, with_tokens, no_tokens, OfTree, with_tree, no_tree}

-- the sites of a finding that has some
abbrev sites_in : Finding → List Site
sites_in (Found sites) = sites
sites_in _ = []

of_tree : (media : MediaType) (text : List ℕ) (tokens : List Token) (comments : List Comment) (sites : List Site)
    → Reads text tokens comments → OfTree media text tokens comments (Found sites) → AreSites text sites
of_tree media text tokens comments sites reads (with_tree program is e) =
    let same : sites ≡ references_in media tokens comments ++ sites_of program = ap sites_in e in
    let read : IsRead (language_of media) (modes_of media) media text program (references_in media tokens comments) =
    record { tokens = tokens; comments = comments; reads = reads; is_tree = is; refers = refl } in
    subst (AreSites text) (sym same)
    (read_sites (language_of media) (modes_of media) media text program (references_in media tokens comments) read)
of_tree media text tokens comments sites reads (no_tree none place e) = absurd (let bad : ⊥ = cc in bad)

of_text : (media : MediaType) (text : List ℕ) (sites : List Site) → OfText (OfTree media) text (Found sites)
    → AreSites text sites
of_text media text sites (with_tokens tokens comments reads has) = of_tree media text tokens comments sites reads has
of_text media text sites (no_tokens kind place stops e) = absurd (let bad : ⊥ = cc in bad)

-- the bytes are a text, whose sites these are
record IsSource (bytes : List ℕ) (sites : List Site) : Type 0 where
  pub text : List ℕ
  pub is : IsText bytes text
  pub of_text : AreSites text sites

of_bytes : (media : MediaType) (bytes : List ℕ) (sites : List Site) → OfBytes (OfText (OfTree media)) bytes (Found sites)
    → IsSource bytes sites
of_bytes media bytes sites (with_text text is has) =
    record { text = text; is = is; of_text = of_text media text sites has }
of_bytes media bytes sites (no_text why none e) = absurd (let bad : ⊥ = cc in bad)

of_kind : (kind : Option ModuleKind) (media : MediaType) (bytes : List ℕ) (sites : List Site)
    → OfKind kind media bytes (Found sites) → IsSource bytes sites
of_kind (Some Source) media bytes sites of = of_bytes media bytes sites of
of_kind (Some Json) media bytes sites of = absurd (let bad : ⊥ = cc in bad)
of_kind (Some Wasm) media bytes sites of = absurd (let bad : ⊥ = cc in bad)
of_kind None media bytes sites of = absurd (let bad : ⊥ = cc in bad)

of_media : (media : Option MediaType) (bytes : List ℕ) (sites : List Site)
    → MatchOption media (Found sites ≡ NoMediaType) (λ media. OfKind (kind_of media) media bytes (Found sites))
    → IsSource bytes sites
of_media (Some media) bytes sites of = of_kind (kind_of media) media bytes sites of
of_media None bytes sites of = absurd (let bad : ⊥ = cc in bad)

-- the sites that were found are those of the text
pub found_sites : (number : ℕ) (bytes text : List ℕ) (sites : List Site) → IsFinding number bytes (Found sites)
    → IsText bytes text → AreSites text sites
found_sites number bytes text sites finding is =
    let source = of_media (media_type_at number) bytes sites finding in
    subst (λ (t : List ℕ). AreSites t sites) (source.is.less_mark ∙ sym is.less_mark) source.of_text

apart : (bytes text : List ℕ) (why : NoText) → IsText bytes text → IsNoText bytes why → ⊥
apart bytes text TooLong is none = omega (arith, is.within, none)
apart bytes text (NoUtf8 place) is none =
    none.1.longest (length bytes) none.1.short (subst IsUtf8 (sym (take-length bytes)) is.utf8)

-- bytes of which sites were found are a text
pub found_text : (number : ℕ) (bytes : List ℕ) (why : NoText) (sites : List Site)
    → IsFinding number bytes (Found sites) → IsNoText bytes why → ⊥
found_text number bytes why sites finding none =
    let source = of_media (media_type_at number) bytes sites finding in apart bytes source.text why source.is none
