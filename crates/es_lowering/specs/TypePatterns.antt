-- What parameters of functions in types, and their patterns, become.
use Rattle.std.specs.Prelude.{ℕ, ◌+◌, ◌-◌, Bool, true, false, List, ◌++◌, Option, Some, None, option_map}
use Rattle.base.specs.declared.range.Range.{Range}
use Rattle.es_token.specs.declared.token.Token.{Token}
use Rattle.es_ast.specs.declared.ts.leaf.Ident.{Ident}
use Rattle.es_ast.specs.declared.ts.leaf.TsKey.{TsKey}
use Rattle.es_ast.specs.declared.ts.leaf.TsKey.TheVariants as vKey
use Rattle.es_ast.specs.declared.ts.ts.TsType.{TsType}
use Rattle.es_ast.specs.declared.ts.ts.TsFnParam.{TsFnParam, roll-TsFnParam}
use Rattle.es_ast.specs.declared.ts.ts.TsParamPat.{TsParamPat}
use Rattle.es_ast.specs.declared.ts.ts.TsParamPat.TheVariants as vPat
use Rattle.es_ast.specs.declared.ts.ts.TsPatProp.{TsPatProp}
use Rattle.es_ast.specs.declared.ts.ts.TsPatProp.TheVariants as vProp
use Rattle.es_lowering.specs.Value.{given, option_list, Value, more, token, part, group, first_of, behind, optional, is_there, turns, type_at, type_pat_at, type_name_at, type_prop_at, fn_param_at, type_key_at}
use Rattle.es_lowering.specs.Texts.{span_of, token_at, ident_at, str_at}
use Rattle.es_lowering.specs.Expressions.{elements}
use Rattle.es_lowering.specs.TypeTexts.{marked, number_at}
use Rattle.es_lowering.specs.TypeNames.{behind_in}

-- ---- patterns
unfoldable pub name_pattern : List ℕ → List Token → Value → Option TsParamPat
name_pattern x ts p = option_map vPat.Ident (ident_at x ts p 0)

unfoldable pub array_pattern : List Token → ℕ → Range → Value → Option TsParamPat
array_pattern ts from r p = option_map (λ elems. vPat.Array elems r) (elements vPat.Hole type_pat_at ts (from + 1) (group p 0))

unfoldable pub object_pattern : Range → Value → Option TsParamPat
object_pattern r p = option_map (λ props. vPat.Object props r) (turns (λ turn. type_prop_at turn 0) (group p 0))

unfoldable pub rest_pattern : Range → Value → Option TsParamPat
rest_pattern r p = option_map (λ arg. vPat.Rest arg r) (type_pat_at p 0)

unfoldable pub rest_property : Range → Value → Option TsPatProp
rest_property r p = option_map (λ arg. vProp.Rest arg r) (type_pat_at p 0)

unfoldable pub key_property : Range → Value → Option TsPatProp
key_property r p =
    given (type_key_at p 0) (λ key. given (type_pat_at p 1) (λ value. Some (vProp.KeyValue key value r)))

unfoldable pub name_property : List ℕ → List Token → Value → Option TsPatProp
name_property x ts p = option_map vProp.Shorthand (ident_at x ts p 0)

-- ---- keys of properties, where a BigInt stands as it is spelled
unfoldable pub word_key : List ℕ → List Token → Value → Option TsKey
word_key x ts p = option_map vKey.Ident (ident_at x ts p 0)

unfoldable pub str_key : List ℕ → List Token → Value → Option TsKey
str_key x ts p = option_map vKey.Str (str_at x ts p 0)

unfoldable pub number_key : List ℕ → List Token → Value → Option TsKey
number_key x ts p = option_map vKey.Num (number_at x ts p 0)

-- ---- parameters
abbrev pub param_by : Bool → Bool → Range → TsParamPat → Option TsType → TsFnParam
param_by rest mark r pat ty =
    roll-TsFnParam (record { rest = rest; pat = pat; optional = mark; type_ann = ty; span = r })

-- a pattern alone
abbrev pub param_of : Range → TsParamPat → TsFnParam
param_of r pat = param_by false false r pat None

-- `this` with its mark and its type
unfoldable pub this_parameter : List Token → Range → Value → Option TsFnParam
this_parameter ts r p =
    given (token_at ts p 0) (λ t.
    given (optional type_at (group p 2)) (λ ty.
    Some (param_by false (is_there (group p 1)) r (vPat.This t.range) ty)))

-- a name before `?` says so itself
abbrev pub marked_pat : Option Ident → TsParamPat → TsParamPat
marked_pat (Some name) pat = vPat.Ident (marked true name)
marked_pat None pat = pat

-- a pattern with `?`, with or without a type behind it, or with a type alone
abbrev pub marked_by : Range → Option Ident → TsParamPat → Value → Option TsFnParam
marked_by r name pat (more (token n) vs) =
    option_map (λ ty. param_by false true r (marked_pat name pat) ty) (optional type_at (group vs 0))
marked_by r name pat g = option_map (λ ty. param_by false false r pat (Some ty)) (type_at g 0)

unfoldable pub marked_parameter : Range → Value → Option TsFnParam
marked_parameter r p = given (type_pat_at p 0) (λ pat. marked_by r (type_name_at p 0) pat (group p 1))

-- the last parameter, behind `...`
abbrev pub rest_at : List Token → Value → ℕ → Option TsFnParam
rest_at ts p n =
    given (type_pat_at p n) (λ pat.
    given (optional type_at (group p (n + 1))) (λ ty.
    Some (param_by true false
    (span_of ts (first_of (part p n) - 1) (behind_in (group p (n + 1)) (behind (part p n)))) pat ty)))

-- Param% | (Param ',')* '...' Pat (':' Type)?
unfoldable pub parameters : List Token → Value → Option (List TsFnParam)
parameters ts p =
    given (turns (λ turn. fn_param_at turn 0) (group p 0)) (λ all.
    given (optional (rest_at ts) (group p 1)) (λ rest. Some (all ++ option_list rest)))
