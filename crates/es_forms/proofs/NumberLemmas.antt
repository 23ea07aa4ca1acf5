-- The numbers of names by their tokens give the sites that the numbers of the names give.
use Rattle.std.proofs.Common.{◌≡◌, ◌∙◌, ap, ℕ, List}
use Rattle.es_token.specs.declared.token.Token.{Token}
use Rattle.es_grammar.specs.declared.cst.tree.Cst.{Cst}
use Rattle.es_walk.specs.Walk.{walked}
use Rattle.es_scopes.specs.Numbers.{ids, number_at}
use Rattle.es_variables.specs.Numbers.{at_in, AreNumbers}
use Rattle.es_required.specs.Required.{Marks, marks}
use Rattle.es_forms.specs.declared.chosen.Forms.{Forms}
use Rattle.es_forms.specs.declared.steps.Place.TheVariants as place
use Rattle.es_forms.specs.Forms.{rules, forms_in}

same_numbers : (numbers : List ℕ) (found : List (ℕ × ℕ)) → AreNumbers numbers found
    → at_in numbers ≡ number_at found
same_numbers numbers found are = λ i n. are n i

pub by_numbers : (chosen : Forms) (x : List ℕ) (ts : List Token) (tree : Cst) (numbers : List ℕ)
    (ms : Marks) → AreNumbers numbers (ids x ts tree) → ms ≡ marks x ts tree
    → walked (rules x ts (at_in numbers) chosen ms) tree place.Plain ≡ forms_in chosen x ts tree
unfolding forms_in
by_numbers chosen x ts tree numbers ms are is =
    ap (λ (number : ℕ → ℕ). walked (rules x ts number chosen ms) tree place.Plain)
    (same_numbers numbers (ids x ts tree) are)
    ∙ ap (λ (m : Marks). walked (rules x ts (number_at (ids x ts tree)) chosen m) tree place.Plain) is
