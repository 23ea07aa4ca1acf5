-- The laws of the sites of derived trees that other crates name.
use Rattle.std.specs.Prelude.{List, [], ◌∷◌, Some, All, slice_get, true}
use Rattle.std.proofs.Common.{◌≡◌, ℕ, ◌<◌, refl, sym, ◌∙◌, arith}
use Rattle.std.proofs.lemmas.List.Elements.{All-append, All-push}
use denote.Enum.Bare.{same_true}
use Rattle.es_token.specs.declared.token.Token.{Token}
use Rattle.es_token.specs.declared.token.TokenKind.TheVariants as k
use Rattle.es_token.specs.contracts.token.TokenKind.{the_type}
use Rattle.es_lexer.specs.Reads.{ReadsTokens}
use Rattle.es_lexer.proofs.Theorems.{reads_within, reads_str}
use Rattle.grammar_theory.specs.declared.error.Lang.{Lang}
use Rattle.grammar_theory.specs.declared.error.Mode.{Mode}
use Rattle.grammar_theory.specs.Key.{seen, keys_of, is}
use Rattle.es_lookahead.proofs.TokenLemmas.{look_some}
use Rattle.es_ast.specs.declared.ast.Program.{Program}
use Rattle.es_site.specs.declared.site.Site.{Site}
use Rattle.es_site.specs.Sites.{sites_of, CutsLiteral}
use Rattle.es_lowering.specs.Texts.{str_of}
use Rattle.es_lowering.specs.derives.Derives.{Derives}
use Rattle.es_law_sites.proofs.ranges.Cuts.{Each, StrCuts}
use Rattle.es_law_sites.proofs.ranges.Theorems.{sites_cut}

none_of : {A : Type 0} (P : A → Type 0) → All P []
none_of P k a within = absurd (let bad : ⊥ = omega (arith, within) in bad)

-- what holds of each item, one by one, holds of all
all_of : {A : Type 0} (P : A → Type 0) (items : List A) → Each P items → All P items
all_of P [] each = none_of P
all_of P (a ∷ items) each =
    All-append P (a ∷ []) items (All-push P [] a (none_of P) each.0) (all_of P items each.1)

-- a string literal among the tokens of a text is cut
literal_cut : (x : List ℕ) (ts : List Token) → ReadsTokens x ts → (n : ℕ) (t : Token) → slice_get ts n ≡ Some t
    → is k.Str (seen (keys_of ts) n) ≡ true → StrCuts x (str_of x t)
unfolding str_of
literal_cut x ts reads n t there e =
    let within = reads_within x ts reads.0 n t reads.1 there in
    let less : t.range.start < t.range.end = within.0 in (
      omega (arith, less),
      within.1,
      reads_str x ts reads.0 n t reads.1 there
          (same_true the_type tt t.kind k.Str (look_some (is k.Str) ts n t (sym there) ∙ e)),
      refl,
    )

-- each site of a derived tree cuts from the text a string literal whose value is the site's
pub derives_cuts : (l : Lang) (m : Mode) (x : List ℕ) (ts : List Token) (p : Program) → ReadsTokens x ts
    → Derives l m x ts p → All (λ site. CutsLiteral x site.range site.value) (sites_of p)
derives_cuts l m x ts p reads derived =
    all_of (λ (site : Site). CutsLiteral x site.range site.value) (sites_of p)
    (sites_cut l m x ts p (literal_cut x ts reads) derived)
