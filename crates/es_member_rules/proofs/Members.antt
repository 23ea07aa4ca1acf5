-- The members of a language with their modifiers, by the predicates behind these.
use Rattle.std.specs.Prelude.{Bool, true, false, if◌then◌else◌}
use Rattle.std.proofs.Common.{◌≡◌, refl, ap, ◌∙◌}
use Rattle.grammar_theory.specs.declared.error.Lang.{Lang}
use Rattle.grammar_theory.specs.Languages.{typed}
use Rattle.grammar_theory.specs.Productions.{Predicate}
use Rattle.es_grammar.specs.types.Functions.{opens_accessor, opens_async, opens_star, opens_method}
use Rattle.es_grammar.specs.types.Classes.{opens_field_accessor, behind_static}
use Rattle.es_grammar.specs.declared.rows.Context.{Context}
use Rattle.es_grammar.specs.Classes.{behind_all, modified_member}
use Rattle.es_grammar.specs.Functions.{opens_typed_method, opens_any_method}
use Rattle.es_member_rules.specs.Behind.{member_behind}

-- by whether there are types
abbrev methods_by : Bool → Predicate
methods_by b K at = if b then opens_typed_method K at else opens_method K at

abbrev behind_by : Bool → Predicate → Predicate
behind_by b g = if b then behind_all g else behind_static g

module _ (l : Lang) (c : Context) (b : Bool) (is : typed l ≡ b) where
  method_is : opens_any_method l ≡ methods_by b
  unfolding opens_any_method
  method_is = ap methods_by is

  member_is : modified_member l c
      ≡ member_behind l c (behind_by b (opens_accessor true)) (behind_by b (opens_async true)) (behind_by b opens_star)
      (behind_by b opens_field_accessor) (behind_by b (methods_by b))
  unfolding modified_member
  member_is =
      ap (λ (t : Bool). member_behind l c (behind_by t (opens_accessor true)) (behind_by t (opens_async true))
      (behind_by t opens_star) (behind_by t opens_field_accessor) (behind_by t (opens_any_method l))) is
      ∙ ap (λ (m : Predicate). member_behind l c (behind_by b (opens_accessor true)) (behind_by b (opens_async true))
      (behind_by b opens_star) (behind_by b opens_field_accessor) (behind_by b m)) method_is

pub plain_member : (l : Lang) (c : Context) → typed l ≡ false
    → modified_member l c
    ≡ member_behind l c (behind_static (opens_accessor true)) (behind_static (opens_async true))
    (behind_static opens_star) (behind_static opens_field_accessor) (behind_static opens_method)
plain_member l c e = member_is l c false e

pub typed_member : (l : Lang) (c : Context) → typed l ≡ true
    → modified_member l c
    ≡ member_behind l c (behind_all (opens_accessor true)) (behind_all (opens_async true)) (behind_all opens_star)
    (behind_all opens_field_accessor) (behind_all opens_typed_method)
typed_member l c e = member_is l c true e
