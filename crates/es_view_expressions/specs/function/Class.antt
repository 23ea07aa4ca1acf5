-- What a view of what stands in a class tells.
use Rattle.std.specs.Prelude.{ℕ, Bool, false, List, Option, Some, None, option_map}
use Rattle.base.specs.declared.range.Range.{Range}
use Rattle.es_token.specs.declared.token.Token.{Token}
use Rattle.es_ast.specs.declared.ts.ts.TsPart.TheVariants as vPart
use Rattle.es_ast.specs.declared.ast.Class.{Class as AClass, roll-Class}
use Rattle.es_lowering.specs.Value.{Value, given, group, optional, turns, expr_at, member_at, type_params_at, arguments_at}
use Rattle.es_lowering.specs.Texts.{own_name_of}
use Rattle.es_lowering.specs.TypedParts.{heritage_in}
use Rattle.es_syntax.specs.declared.cursor.Siblings.{Siblings}
use Rattle.es_syntax.specs.Held.{held, there}
use Rattle.es_syntax.specs.Views.{Within, MaybeUnder}
use Rattle.es_view_expressions.specs.declared.function.class.ClassHead.{ClassHead}
use Rattle.es_view_expressions.specs.declared.function.class.ClassHead.TheVariants as view

-- ---- each form, of what its parts are
unfoldable pub plain_class : List ℕ → List Token → Range → Value → Value → Value → Option AClass
plain_class x ts r name super_class members =
    given (own_name_of x ts name) (λ name.
    given (optional expr_at super_class) (λ super_class.
    given (turns (λ turn. member_at turn 0) members) (λ members.
    Some (roll-Class (record {
      ident = name;
      is_abstract = false;
      type_params = None;
      super_class = super_class;
      super_type_args = None;
      implements = None;
      body = members;
      span = r;
    })))))

unfoldable pub typed_class : List ℕ → List Token → Range → Bool → Value → Value → Value → Value → Value → Option AClass
typed_class x ts r is_abstract name type_params extends implements members =
    given (own_name_of x ts name) (λ name.
    given (option_map (λ ps. option_map vPart.TypeParams ps) (optional type_params_at type_params)) (λ type_params.
    given (optional expr_at extends) (λ super_class.
    given (option_map (λ args. option_map vPart.TypeArgs args) (optional arguments_at (group extends 1)))
    (λ super_type_args.
    given (heritage_in ts implements) (λ implements.
    given (turns (λ turn. member_at turn 0) members) (λ members.
    Some (roll-Class (record {
      ident = name;
      is_abstract = is_abstract;
      type_params = type_params;
      super_class =
          super_class;
      super_type_args = super_type_args;
      implements = implements;
      body = members;
      span = r;
    }))))))))

-- what a view tells
abbrev pub the_class : List ℕ → List Token → Range → ClassHead → Option AClass
the_class x ts r (view.Plain name super_class members) =
    plain_class x ts r (there x ts name) (held x ts super_class.entries.now) (held x ts members.entries.now)
the_class x ts r (view.Typed is_abstract name type_params extends implements members) =
    typed_class x ts r is_abstract (there x ts name) (held x ts type_params.entries.now)
    (held x ts extends.entries.now) (held x ts implements.entries.now) (held x ts members.entries.now)
the_class x ts r view.Broken = None

-- the parts take fewer entries
abbrev pub IsBelow : Siblings → ClassHead → Type 0
IsBelow n (view.Plain name super_class members) = MaybeUnder name n × Within super_class n × Within members n
IsBelow n (view.Typed is_abstract name type_params extends implements members) =
    MaybeUnder name n × Within type_params n × Within extends n × Within implements n × Within members n
IsBelow n view.Broken = Unit {0}
