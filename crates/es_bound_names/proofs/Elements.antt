-- What the elements of an array add, one by one.
use Rattle.std.specs.Prelude.{ℕ, List, [], ◌∷◌, ◌++◌, Option, Some, None}
use Rattle.std.specs.List.{flat_map}
use Rattle.std.proofs.Common.{◌≡◌, refl, sym, ap, subst, ◌∙◌}
use Rattle.std.proofs.lemmas.List.{append-nil}
use Rattle.es_token.specs.declared.token.Token.{Token}
use Rattle.es_ast.specs.declared.ast.Pat.{Pat}
use Rattle.es_ast.specs.declared.ast.Pat.TheVariants as vPat
use Rattle.es_lowering.specs.Value.{Value, absent, nil, more, token, node, as_group, group, pat_at}
use Rattle.es_lowering.specs.Texts.{span_of}
use Rattle.es_lowering.specs.Expressions.{element_of, elements, behind_element}
use Rattle.es_syntax.specs.Roles.{pat_in}
use Rattle.es_bound_names.specs.Names.{Names, bound_names}
use Rattle.es_bound_names.specs.Adds.{Adds}
use Rattle.es_bound_names.proofs.Equations.{pat_Hole}
use Rattle.es_bound_names.proofs.Lists.{adds_none, adds_more}

module _ (ts : List Token) where
  -- ---- an element, which may be none
  pub adds_hole : (v : Value) (old : Names) (at : ℕ) → v ≡ nil
      → Adds bound_names old old (element_of vPat.Hole pat_at ts at v)
  adds_hole v old at e =
      subst (λ (w : Value). Adds bound_names old old (element_of vPat.Hole pat_at ts at w)) (sym e)
      (record { added = sym (ap (λ m. old ++ m) (pat_Hole (span_of ts at at)) ∙ append-nil old) })

  pub adds_element : (v u us : Value) (old new : Names) (at : ℕ) → v ≡ more u us
      → Adds bound_names old new (pat_in u) → Adds bound_names old new (element_of vPat.Hole pat_at ts at v)
  adds_element v u us old new at e a =
      subst (λ (w : Value). Adds bound_names old new (element_of vPat.Hole pat_at ts at w)) (sym e) a

  -- ---- elements
  -- if what is left adds these names to those found by now, all elements add them to those found before
  pub record ElementsLeft (start now : Names) (all left : Value) : Type 0 where
    pub adds : (new : Names)
        → ((later : ℕ) → Adds (flat_map bound_names) now new (elements vPat.Hole pat_at ts later left))
        → (at : ℕ) → Adds (flat_map bound_names) start new (elements vPat.Hole pat_at ts at all)

  pub elements_all : (start : Names) (all : Value) → ElementsLeft start start all all
  elements_all start all = record { adds = λ new a at. a at }

  elements_more : (now next new : Names) (v rest : Value) (at : ℕ)
      → ((at : ℕ) → Adds bound_names now next (element_of vPat.Hole pat_at ts at (group (as_group v) 0)))
      → ((later : ℕ) → Adds (flat_map bound_names) next new (elements vPat.Hole pat_at ts later rest))
      → Adds (flat_map bound_names) now new (elements vPat.Hole pat_at ts at (more v rest))
  elements_more now next new v rest at a b =
      adds_more bound_names now next new (element_of vPat.Hole pat_at ts at (group (as_group v) 0))
      (elements vPat.Hole pat_at ts (behind_element at (group (as_group v) 0)) rest) (a at)
      (b (behind_element at (group (as_group v) 0)))

  pub elements_next : (start now next : Names) (all left v rest : Value) → left ≡ more v rest
      → ElementsLeft start now all left
      → ((at : ℕ) → Adds bound_names now next (element_of vPat.Hole pat_at ts at (group (as_group v) 0)))
      → ElementsLeft start next all rest
  elements_next start now next all left v rest e before a = record {
    adds = λ new b.
        before.adds new (λ later.
        subst (λ (w : Value). Adds (flat_map bound_names) now new (elements vPat.Hole pat_at ts later w)) (sym e)
        (elements_more now next new v rest later a b));
  }

  pub elements_done : (start now : Names) (all left : Value) → left ≡ nil → ElementsLeft start now all left
      → (at : ℕ) → Adds (flat_map bound_names) start now (elements vPat.Hole pat_at ts at all)
  elements_done start now all left e before =
      before.adds now (λ later.
      subst (λ (w : Value). Adds (flat_map bound_names) now now (elements vPat.Hole pat_at ts later w)) (sym e)
      (adds_none bound_names now))
