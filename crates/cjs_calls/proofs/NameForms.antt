-- What properties are named.
use Rattle.std.specs.Prelude.{ℕ, Bool, true, false, List, Option, Some, None}
use Rattle.std.proofs.Common.{◌≡◌, refl, sym, ap, ◌∙◌}
use Rattle.es_token.specs.declared.token.Token.{Token}
use Rattle.es_lowering.specs.Texts.{str_of}
use Rattle.cjs_facts.specs.declared.found.Found.{Found}
use Rattle.cjs_facts.specs.Looks.{Name, text, name_by, required_by}
use Rattle.cjs_facts.specs.Exports.{with_reexport, spread_found}
use Rattle.cjs_looks.specs.Seen.{text_of}
use Rattle.cjs_looks.specs.steps.Values.{value_by}

module _ (x : List ℕ) (t : Option Token) where
  pub name_text : (value : Option Name) → value ≡ value_by (text_of x t) → value ≡ name_by (text_of x t)
  name_text value e = e ∙ go t
    where
      go : (t : Option Token) → value_by (text_of x t) ≡ name_by (text_of x t)
      go None = refl
      go (Some t) = refl

  pub name_required : None ≡ name_by (required_by (text_of x t))
  name_required = go t
    where
      by : (lone : Bool) (value : Name) → None ≡ name_by (required_by (text lone value))
      by true value = refl
      by false value = refl

      go : (t : Option Token) → None ≡ name_by (required_by (text_of x t))
      go None = refl
      go (Some t) = by (str_of x t).lone (str_of x t).value

  pub spread_text : (f : Found) → f ≡ spread_found (text_of x t) f
  spread_text f = go t
    where
      go : (t : Option Token) → f ≡ spread_found (text_of x t) f
      go None = refl
      go (Some t) = refl

  -- with the value, or without one
  abbrev With : Option Name → Found → Found
  With (Some name) f = with_reexport name f
  With None f = f

  required : (f : Found) → spread_found (required_by (text_of x t)) f ≡ With (value_by (text_of x t)) f
  required f = go t
    where
      by : (lone : Bool) (value : Name)
          → spread_found (required_by (text lone value)) f ≡ With (value_by (text lone value)) f
      by true value = refl
      by false value = refl

      go : (t : Option Token) → spread_found (required_by (text_of x t)) f ≡ With (value_by (text_of x t)) f
      go None = refl
      go (Some t) = by (str_of x t).lone (str_of x t).value

  pub spread_value : (o : Option Name) (name : Name) (old new : Found) → o ≡ value_by (text_of x t) → o ≡ Some name
      → new ≡ with_reexport name old → new ≡ spread_found (required_by (text_of x t)) old
  spread_value o name old new e is made =
      made ∙ (ap (λ (p : Option Name). With p old) (sym is ∙ e) ∙ sym (required old))

  pub spread_nothing : (o : Option Name) (old : Found) → o ≡ value_by (text_of x t) → o ≡ None
      → old ≡ spread_found (required_by (text_of x t)) old
  spread_nothing o old e is = ap (λ (p : Option Name). With p old) (sym is ∙ e) ∙ sym (required old)
