-- What classes and their members become (ECMA-262, "Class Definitions").
use Rattle.std.specs.Prelude.{ℕ, ◌+◌, Bool, false, List, Option, Some, None, option_map}
use Rattle.base.specs.declared.range.Range.{Range}
use Rattle.es_token.specs.declared.token.Token.{Token}
use Rattle.es_ast.specs.declared.ts.leaf.MethodKind.{MethodKind}
use Rattle.es_ast.specs.declared.leaf.Modifiers.{Modifiers}
use Rattle.es_ast.specs.declared.leaf.Accessibility.TheVariants as vAccessibility
use Rattle.es_ast.specs.declared.ast.Class.{Class, roll-Class}
use Rattle.es_ast.specs.declared.ast.ClassMember.{ClassMember}
use Rattle.es_ast.specs.declared.ast.ClassMember.TheVariants as vMember
use Rattle.es_lowering.specs.Value.{Value, given, group, optional, is_there, turns, expr_at, block_at, member_at, key_at}
use Rattle.es_lowering.specs.Texts.{kind_at, own_name_at}
use Rattle.es_lowering.specs.Operators.{listed, accessor_kinds}
use Rattle.es_lowering.specs.Functions.{method_at}

-- 'class' Name? ('extends' Chain)? '{' Member* '}'
unfoldable pub class_ : List ℕ → List Token → Range → Value → Option Class
class_ x ts r p =
    given (own_name_at x ts p 0) (λ name.
    given (optional expr_at (group p 1)) (λ super_class.
    given (turns (λ turn. member_at turn 0) (group p 2)) (λ members.
    Some (roll-Class (record {
      ident = name;
      is_abstract = false;
      type_params = None;
      super_class = super_class;
      super_type_args = None;
      implements = None;
      body = members;
      span = r;
    })))))

-- ---- members
-- `static`, and `accessor` before the key of a field
abbrev pub modified : Bool → Bool → Modifiers
modified is_static accessor = record {
  accessibility = vAccessibility.Absent;
  is_static = is_static;
  is_abstract = false;
  is_override = false;
  readonly = false;
  declare = false;
  accessor = accessor;
}

unfoldable pub static_block : Range → Value → Option ClassMember
static_block r p = option_map (λ stmts. vMember.StaticBlock stmts r) (block_at p 0)

-- a method of this kind, whose key stands at this part; `static` stands before it where the first part is there
unfoldable pub method_member : List Token → MethodKind → Bool → Bool → Range → Value → ℕ → Option ClassMember
method_member ts kind is_async is_generator r p n =
    given (key_at p n) (λ key.
    given (method_at ts is_async is_generator p (n + 1)) (λ function.
    Some (vMember.Method (modified (is_there (group p 0)) false) kind key.0 key.1 false function r)))

unfoldable pub accessor_member : List Token → Range → Value → Option ClassMember
accessor_member ts r p =
    given (given (kind_at ts p 1) (listed accessor_kinds)) (λ kind. method_member ts kind false false r p 2)

-- a field, with `accessor` or without
unfoldable pub field_member : Bool → Range → Value → Option ClassMember
field_member accessor r p =
    given (key_at p 1) (λ key.
    given (optional expr_at (group p 2)) (λ value.
    Some (vMember.Prop (modified (is_there (group p 0)) accessor) key.0 key.1 false false None value r)))
