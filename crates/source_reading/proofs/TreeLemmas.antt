-- The tree of a source: there is at most one, and its sites cut their literals.
use Rattle.std.specs.Prelude.{All}
use Rattle.std.proofs.Common.{◌≡◌, ℕ, List, [], ◌∷◌, inl, inr}
use Rattle.es_token.specs.declared.token.Token.{Token}
use Rattle.es_lexer.specs.Reads.{ReadsTokens}
use Rattle.grammar_theory.specs.declared.error.Lang.{Lang}
use Rattle.grammar_theory.specs.declared.error.Mode.{Mode}
use Rattle.es_ast.specs.declared.ast.Program.{Program}
use Rattle.es_lowering.specs.derives.Derives.{Derives}
use Rattle.es_lowering.proofs.derives.Theorems.{one_tree}
use Rattle.es_law_texts.proofs.sites.Theorems.{derives_cuts}
use Rattle.es_site.specs.Sites.{sites_of, CutsLiteral}
use Rattle.source_reading.specs.Tree.{IsFirstTree}

module _ (lang : Lang) (text : List ℕ) (tokens : List Token) where
  -- the first mode that derives a tree derives one alone
  pub first_once : (modes : List Mode) (p q : Program) → IsFirstTree lang text tokens modes p
      → IsFirstTree lang text tokens modes q → p ≡ q
  first_once [] p q is so = absurd is
  first_once (m ∷ modes) p q (inl is) (inl so) = one_tree lang m text tokens p q is so
  first_once (m ∷ modes) p q (inl is) (inr so) = absurd (so.0 p is)
  first_once (m ∷ modes) p q (inr is) (inl so) = absurd (is.0 q so)
  first_once (m ∷ modes) p q (inr is) (inr so) = first_once modes p q is.1 so.1

  -- what holds of each derived tree
  pub first_holds : (P : Program → Type 0) → ((m : Mode) (p : Program) → Derives lang m text tokens p → P p)
      → (modes : List Mode) (p : Program) → IsFirstTree lang text tokens modes p → P p
  first_holds P each [] p is = absurd is
  first_holds P each (m ∷ modes) p (inl is) = each m p is
  first_holds P each (m ∷ modes) p (inr is) = first_holds P each modes p is.1

  -- the tree of one mode
  pub only_first : (m : Mode) (p : Program) → IsFirstTree lang text tokens (m ∷ []) p → Derives lang m text tokens p
  only_first m p (inl is) = is
  only_first m p (inr is) = absurd is.1

  pub is_first : (m : Mode) (modes : List Mode) (p : Program) → Derives lang m text tokens p
      → IsFirstTree lang text tokens (m ∷ modes) p
  is_first m modes p is = inl is

  -- where the first mode derives none
  pub later : (m n : Mode) (p : Program) → ((other : Program) → ¬ Derives lang m text tokens other)
      → Derives lang n text tokens p → IsFirstTree lang text tokens (m ∷ n ∷ []) p
  later m n p none is = inr (none, inl is)

-- the sites of a tree cut their literals
pub tree_cuts : (lang : Lang) (modes : List Mode) (text : List ℕ) (tokens : List Token) (p : Program)
    → ReadsTokens text tokens → IsFirstTree lang text tokens modes p
    → All (λ site. CutsLiteral text site.range site.value) (sites_of p)
tree_cuts lang modes text tokens p reads is =
    first_holds lang text tokens (λ tree. All (λ site. CutsLiteral text site.range site.value) (sites_of tree))
    (λ m tree derived. derives_cuts lang m text tokens tree reads derived) modes p is
