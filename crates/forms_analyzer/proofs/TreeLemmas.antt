-- The first tree is that of the typed tree.
use Rattle.std.specs.Prelude.{Result}
use Rattle.std.specs.Global.{Vec}
use Rattle.std.proofs.Common.{◌≡◌, ℕ, List, [], ◌∷◌, inl, inr}
use Rattle.es_token.specs.declared.token.Token.{Token}
use Rattle.grammar_theory.specs.declared.error.Lang.{Lang}
use Rattle.grammar_theory.specs.declared.error.Mode.{Mode}
use Rattle.grammar_theory.specs.declared.error.SyntaxError.{SyntaxError}
use Rattle.grammar_theory.specs.Key.{Key, keys_of}
use Rattle.es_ast.specs.declared.ast.Program.{Program}
use Rattle.es_grammar.specs.declared.cst.tree.Cst.{Cst}
use Rattle.es_grammar.specs.cst.Slim.{tree_of}
use Rattle.es_site.specs.Sites.{sites_of}
use Rattle.es_syntax.specs.declared.entry.Entry.{Entry}
use Rattle.es_law_sites.specs.plain.Own.{plain_sites}
use Rattle.es_law_programs.proofs.sites.Theorems.{kept_sites}
use Rattle.es_program_reader.specs.Derived.{GivesTree}
use Rattle.es_program_reader.specs.Program.{IsKept, HoldsKept}
use Rattle.source_reading.specs.Tree.{IsFirstTree}
use Rattle.source_sites.proofs.SitesLemmas.{kept_of}
use Rattle.forms_analyzer.specs.Forms.{IsFirstKept, HoldsFirst}

module _ (l : Lang) (K : List Key) where
  -- ---- what is read in each mode
  pub holds_first : (m : Mode) (modes : List Mode) (es : List Entry) → HoldsKept l m K es
      → HoldsFirst l K (m ∷ modes) es
  holds_first m modes es holds = record { tree = holds.tree; row = holds.row; first = inl holds.kept }

  pub holds_later : (m n : Mode) (es : List Entry) → ((other : Cst) → ¬ IsKept l m K other) → HoldsKept l n K es
      → HoldsFirst l K (m ∷ n ∷ []) es
  holds_later m n es none holds =
      record { tree = holds.tree; row = holds.row; first = inr (none, inl holds.kept) }

  pub given_only : (m : Mode) (r : Result (Vec Entry) SyntaxError) (tree : Cst)
      → ((t : Cst) → IsKept l m K t → GivesTree r t) → IsFirstKept l K (m ∷ []) tree → GivesTree r tree
  given_only m r tree one (inl is) = one tree is
  given_only m r tree one (inr is) = absurd is.1

  -- what is a script is no module
  pub given_first : (m n : Mode) (r : Result (Vec Entry) SyntaxError) (es : List Entry) (tree : Cst)
      → HoldsKept l m K es → ((t : Cst) → IsKept l m K t → GivesTree r t) → IsFirstKept l K (m ∷ n ∷ []) tree
      → GivesTree r tree
  given_first m n r es tree holds one (inl is) = one tree is
  given_first m n r es tree holds one (inr is) = absurd (is.0 holds.tree holds.kept)

  pub given_later : (m n : Mode) (r : Result (Vec Entry) SyntaxError) (tree : Cst)
      → ((other : Cst) → ¬ IsKept l m K other) → ((t : Cst) → IsKept l n K t → GivesTree r t)
      → IsFirstKept l K (m ∷ n ∷ []) tree → GivesTree r tree
  given_later m n r tree none one (inl is) = absurd (none tree is)
  given_later m n r tree none one (inr (other, inl is)) = one tree is
  given_later m n r tree none one (inr (other, inr is)) = absurd is.1

module _ (l : Lang) (x : List ℕ) (ts : List Token) where
  -- its typed tree has the sites of the plain one
  pub first_typed : (modes : List Mode) (tree : Cst) → IsFirstKept l (keys_of ts) modes tree
      → (p : Program) × IsFirstTree l x ts modes p × (sites_of p ≡ plain_sites x ts tree)
  first_typed [] tree is = absurd is
  first_typed (m ∷ modes) tree (inl kept) =
      let typed = kept_sites l m x ts kept.plain tree kept.program kept.kept in
      (typed.0, inl typed.1, typed.2)
  first_typed (m ∷ modes) tree (inr later) =
      let typed = first_typed modes tree later.1 in (
        typed.0,
        inr ((λ other derived. later.0 (tree_of derived.plain) (kept_of l m x ts other derived)), typed.1),
        typed.2,
      )

  -- where there is a typed tree, there is a plain one
  pub first_plain : (modes : List Mode) (p : Program) → IsFirstTree l x ts modes p
      → (tree : Cst) × IsFirstKept l (keys_of ts) modes tree
  first_plain [] p is = absurd is
  first_plain (m ∷ modes) p (inl derived) = (tree_of derived.plain, inl (kept_of l m x ts p derived))
  first_plain (m ∷ modes) p (inr later) =
      let plain = first_plain modes p later.1 in (
        plain.0,
        inr (
          (λ other kept.
              let typed = kept_sites l m x ts kept.plain other kept.program kept.kept in
              later.0 typed.0 typed.1),
          plain.1,
        ),
      )
