-- The laws of names with their numbers.
use Rattle.std.specs.Prelude.{ℕ, ◌==◌, true, false, if◌then◌else◌, List, [], ◌∷◌, ◌++◌, slice_range}
use Rattle.std.proofs.Common.{◌≡◌, sym, ap, subst, ◌∙◌, arith}
use Rattle.std.proofs.lemmas.Bool.Decides.{nat_tests}
use Rattle.base.specs.declared.range.Range.{Range}
use Rattle.es_token.specs.declared.token.Token.{Token}
use Rattle.es_ast.specs.declared.ts.leaf.Ident.{Ident as Name}
use Rattle.es_lowering.specs.Texts.{ident_of}
use Rattle.es_scopes.specs.Marks.{Marks}
use Rattle.es_scopes.specs.Numbers.{Named, Innermost, named_in, declares, spelled, number_of, numbered as with_numbers, number_at, ids_in}
use Rattle.es_scopes.proofs.Innermost.{is_innermost}
use Rattle.es_variables.specs.declared.ident.Ident.{Ident}
use Rattle.es_variables.specs.Numbers.{at_in, AreNumbers}
use Rattle.es_variables.specs.Kept.{Names}
use Rattle.es_variables.specs.Numbered.{numbered, unnumbered, name_of, AreOthers}

-- ---- names with their numbers are those of the tree
module _ (x : List ℕ) (ts : List Token) (numbers : List ℕ) (at : ℕ) (it : Ident) (names : Names x ts numbers at it)
  where
    abbrev made : List ℕ → ℕ → Range → Name
    made sym n span = record { sym = sym; ctxt = n; optional = false; span = span }

    -- a name is the one that the tree has, with its number
    pub is_numbered : name_of it ≡ numbered (at_in numbers at) (ident_of x names.token)
    unfolding ident_of
    is_numbered =
        ap (λ q. made q it.ctxt it.span) names.sym
        ∙ ap (λ n. made (slice_range x names.token.range.start names.token.range.end) n it.span) names.ctxt
        ∙ ap (made (slice_range x names.token.range.start names.token.range.end) (at_in numbers at)) names.span

    -- without its number it is the one that the tree has
    pub without_number : unnumbered (name_of it) ≡ ident_of x names.token
    unfolding ident_of
    without_number = ap unnumbered is_numbered

-- ---- the number at a name's token is that of the innermost scope around it that declares it
module _ (x : List ℕ) (ts : List Token) (names : List Named) where
  same : (n : ℕ) → (n == n) ≡ true
  same n = grind (arith, nat_tests)

  number_found : (before : List Named) (it : Named) (behind : List Named) → AreOthers it.token before
      → number_at (with_numbers x ts names (before ++ it ∷ behind)) it.token ≡ number_of x ts names it
  number_found [] it behind others =
      ap (λ b. if b then number_of x ts names it else number_at (with_numbers x ts names behind) it.token)
      (same it.token)
  number_found (other ∷ before) it behind others =
      ap (λ b. if b then number_of x ts names other
      else number_at (with_numbers x ts names (before ++ it ∷ behind)) it.token) others.0
      ∙ number_found before it behind others.1

-- of a program whose marks these are: the first name at each token
pub number_is_innermost : (x : List ℕ) (ts : List Token) (found : Marks) (numbers : List ℕ)
    (before : List Named) (it : Named) (behind : List Named) → AreNumbers numbers (ids_in x ts found)
    → named_in [] 1 found ≡ before ++ it ∷ behind → AreOthers it.token before
    → Innermost (λ n. declares x ts (named_in [] 1 found) n (spelled x ts it)) it.around (at_in numbers it.token)
unfolding ids_in
number_is_innermost x ts found numbers before it behind are split others =
    let names : List Named = named_in [] 1 found in
    let at_token : at_in numbers it.token ≡ number_of x ts names it =
    are it.token
    ∙ ap (λ (some : List Named). number_at (with_numbers x ts names some) it.token) split
    ∙ number_found x ts names before it behind others in
    subst (Innermost (λ n. declares x ts names n (spelled x ts it)) it.around) (sym at_token)
    (is_innermost x ts names it)
