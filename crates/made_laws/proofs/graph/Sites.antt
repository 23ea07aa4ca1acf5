-- The sites of a module made by number.
use Rattle.std.proofs.Common.{◌≡◌, ◌∙◌, refl, sym, ap, subst, ℕ, ◌-◌, ◌<◌, ◌^◌, Bool, true, false, List, [], ◌∷◌, ◌++◌, take, drop, arith, slice_range}
use Rattle.std.specs.Prelude.{All, if◌then◌else◌}
use Rattle.es_token.specs.declared.token.Token.{Token}
use Rattle.es_token.specs.declared.token.Comment.{Comment}
use Rattle.es_site.specs.declared.site.Site.{Site}
use Rattle.es_site.specs.Sites.{sites_of, CutsLiteral}
use Rattle.es_literal.specs.Values.{value_of}
use Rattle.es_references.specs.References.{references_of}
use Rattle.media_type.specs.declared.media_type.MediaType.{MediaType}
use Rattle.media_type.specs.MediaType.{is_typed}
use Rattle.source_reading.specs.Tree.{language_of, modes_of}
use Rattle.source_reading.specs.Read.{references_in, HasSites}
use Rattle.source_reading.proofs.TreeLemmas.{tree_cuts}
use Rattle.std.proofs.lemmas.List.Elements.{All-weaker}
use Rattle.made_bundle.specs.Made.{module_text}
use Rattle.made_laws.proofs.Lines.{Imports}
use Rattle.made_laws.proofs.Slices.{about_slice, no_comments, literal_of}
use Rattle.made_laws.proofs.Values.{import_value}

no_references : (media : MediaType) (tokens : List Token) (comments : List Comment) → comments ≡ []
    → references_in media tokens comments ≡ []
unfolding references_of
no_references media tokens comments none =
    ap (references_in media tokens) none ∙ by (is_typed media)
  where
    by : (b : Bool) → (if b then references_of tokens [] else []) ≡ []
    by true = refl
    by false = refl

literal_imports : (count i : ℕ) (site : Site) → i < count → count < 2 ^ 62
    → CutsLiteral (module_text count i) site.range site.value → Imports count site.value
literal_imports count i site below few cut =
    let text = module_text count i in
    let a = site.range.start in
    let b = site.range.end in
    let lit = literal_of count i (slice_range text a b) (take a text) (drop (b - a) (drop a text)) below few
    (about_slice text a b) cut.2 in
    let value : site.value ≡ lit.inner
    = sym cut.3 ∙ ap value_of (lit.is ∙ ap (λ (x : List ℕ). 34 ∷ (x ++ 34 ∷ [])) lit.imports.is)
    ∙ import_value lit.imports.number (omega (arith, lit.imports.below, few)) ∙ sym lit.imports.is in
    record { number = lit.imports.number; below = lit.imports.below; is = value ∙ lit.imports.is }

pub module_sites : (count i : ℕ) (media : MediaType) (found : List Site) → i < count → count < 2 ^ 62
    → HasSites media (module_text count i) found → All (λ site. Imports count site.value) found
module_sites count i media found below few has =
    let P : Site → Type 0 = λ site. Imports count site.value in
    let none = has.read.refers ∙ no_references media has.read.tokens has.read.comments
    (no_comments count i has.read.tokens has.read.comments below few has.read.reads) in
    let same : found ≡ sites_of has.tree
    = has.both ∙ ap (λ (r : List Site). r ++ sites_of has.tree) none in
    subst (All P) (sym same)
    (All-weaker (λ site. CutsLiteral (module_text count i) site.range site.value) P
    (λ site cut. literal_imports count i site below few cut) (sites_of has.tree)
    (tree_cuts (language_of media) (modes_of media) (module_text count i) has.read.tokens has.tree
    (has.read.comments, has.read.reads) has.read.is_tree))
