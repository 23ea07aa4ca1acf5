-- What names of types, arguments, parameters and their patterns become.
use Rattle.std.specs.Prelude.{ℕ, ◌+◌, Bool, false, ◌||◌, List, ◌∷◌, Option, Some, None, option_map}
use Rattle.base.specs.declared.range.Range.{Range}
use Rattle.es_token.specs.declared.token.Token.{Token}
use Rattle.es_token.specs.declared.token.TokenKind.{TokenKind}
use Rattle.es_token.specs.declared.token.TokenKind.TheVariants as k
use Rattle.grammar_theory.specs.Key.{same_kind}
use Rattle.es_ast.specs.declared.ts.leaf.TsEntityName.{TsEntityName}
use Rattle.es_ast.specs.declared.ts.ts.Nodes.{Nodes}
use Rattle.es_ast.specs.declared.ts.ts.TsType.{TsType}
use Rattle.es_ast.specs.declared.ts.ts.TsType.TheVariants as vType
use Rattle.es_ast.specs.declared.ts.ts.TsTypeParam.{TsTypeParam, roll-TsTypeParam}
use Rattle.es_lowering.specs.Value.{given, Value, more, part, as_group, group, first_of, behind, optional, turns, type_at, entity_at, arguments_at}
use Rattle.es_lowering.specs.Texts.{span_of, kind_at, ident_at, str_at}

-- ---- names of types
-- a name alone
abbrev pub named : Range → TsEntityName → TsType
named r name = vType.Ref name None r

-- a name with arguments
unfoldable pub reference : Range → Value → Option TsType
reference r p =
    given (entity_at p 0) (λ name. given (arguments_at p 1) (λ arguments. Some (vType.Ref name (Some arguments) r)))

abbrev pub named_reference : Value → Option (TsEntityName × Option (Nodes TsType))
named_reference p =
    given (entity_at p 0) (λ name. given (arguments_at p 1) (λ arguments. Some (name, Some arguments)))

-- 'import' '(' Str ')' ('.' Entity)? TArgs?
unfoldable pub import_type : List ℕ → List Token → Range → Value → Option TsType
import_type x ts r p =
    given (str_at x ts p 0) (λ arg.
    given (optional entity_at (group p 1)) (λ qualifier.
    given (optional arguments_at (group p 2)) (λ arguments.
    Some (vType.Import arg qualifier arguments r))))

-- ---- arguments
-- a type, and others behind separators
abbrev pub types_from : Value → ℕ → Option (List TsType)
types_from p n =
    given (type_at p n) (λ first. given (turns (λ turn. type_at turn 0) (group p (n + 1))) (λ rest. Some (first ∷ rest)))

unfoldable pub arguments : Range → Value → Option (Nodes TsType)
arguments r p = option_map (λ types. record { items = types; span = r }) (types_from p 0)

-- ---- parameters of types
-- one of the words in a list of them is of this kind
abbrev pub holds : List Token → TokenKind → Value → Option Bool
holds ts kind (more v vs) =
    given (kind_at ts (as_group v) 0) (λ other.
    given (holds ts kind vs) (λ others. Some (same_kind other kind || others)))
holds ts kind _ = Some false

-- the first token of a parameter: that of its first modifier, or of its name
abbrev pub first_in : Value → ℕ → ℕ
first_in (more v vs) name = first_of (part (as_group v) 0)
first_in _ name = name

-- the token behind a part that may be absent
abbrev pub behind_in : Value → ℕ → ℕ
behind_in (more v vs) before = behind v
behind_in _ before = before

-- ('const' | 'in' | 'out')* Name ('extends' Type)? ('=' Type)?, which span all that stands there
unfoldable pub type_param : List ℕ → List Token → Value → Option TsTypeParam
type_param x ts p =
    given (holds ts k.ConstWord (group p 0)) (λ is_const.
    given (holds ts k.InWord (group p 0)) (λ is_in.
    given (holds ts k.OutWord (group p 0)) (λ is_out.
    given (ident_at x ts p 1) (λ name.
    given (optional type_at (group p 2)) (λ constraint.
    given (optional type_at (group p 3)) (λ default.
    Some (roll-TsTypeParam (record {
      is_const = is_const;
      is_in = is_in;
      is_out = is_out;
      name = name;
      constraint = constraint;
      default = default;
      span = span_of ts (first_in (group p 0) (first_of (part p 1)))
          (behind_in (group p 3) (behind_in (group p 2) (behind (part p 1))));
    }))))))))

-- the first one stands among the parts of the node, the others in turns
unfoldable pub type_params : List ℕ → List Token → Range → Value → Option (Nodes TsTypeParam)
type_params x ts r p =
    given (type_param x ts p) (λ first.
    given (turns (type_param x ts) (group p 5)) (λ rest.
    Some (record { items = first ∷ rest; span = r })))
