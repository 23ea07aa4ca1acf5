-- What a view of a parameter of a type of a function tells.
use Rattle.std.specs.Prelude.{ℕ, Bool, false, List, [], ◌∷◌, Option, Some, None, option_map, slice_get}
use Rattle.base.specs.declared.range.Range.{Range}
use Rattle.es_token.specs.declared.token.Token.{Token}
use Rattle.es_grammar.specs.declared.rows.NodeKind.{NodeKind}
use Rattle.es_grammar.specs.declared.rows.NodeKind.TheVariants as l
use Rattle.es_ast.specs.declared.ts.ts.TsFnParam.{TsFnParam}
use Rattle.es_ast.specs.declared.ts.ts.TsParamPat.{TsParamPat}
use Rattle.es_ast.specs.declared.ts.ts.TsParamPat.TheVariants as vPat
use Rattle.es_ast.specs.declared.ts.leaf.Ident.{Ident}
use Rattle.es_lowering.specs.Value.{Value, given, optional, type_at}
use Rattle.es_lowering.specs.TypePatterns.{param_by, param_of, marked_by}
use Rattle.es_syntax.specs.declared.cursor.Siblings.{Siblings}
use Rattle.es_syntax.specs.Held.{held, valued}
use Rattle.es_syntax.specs.Roles.{type_name_in, type_pat_in}
use Rattle.es_syntax.specs.Views.{Under, Within}
use Rattle.es_view_types.specs.declared.members.param.TypeFnParam.{TypeFnParam}
use Rattle.es_view_types.specs.declared.members.param.TypeFnParam.TheVariants as view

-- the alternatives
abbrev pub parameters : List NodeKind
parameters =
    l.ThisParameterOfType ∷ l.MarkedParameterOfType ∷ l.NamePatternOfType ∷ l.ArrayPatternOfType ∷
    l.ObjectPatternOfType ∷ l.RestPatternOfType ∷ []

-- ---- each form, of what its parts are
unfoldable pub this : Range → Option Token → Bool → Value → Option TsFnParam
this r word mark ty =
    given word (λ t.
    given (optional type_at ty) (λ ty. Some (param_by false mark r (vPat.This t.range) ty)))

-- a pattern that is a name alone says so itself
unfoldable pub marked : Range → Option Ident → Option TsParamPat → Value → Option TsFnParam
marked r name pat mark = given pat (λ pat. marked_by r name pat mark)

-- what a view tells
abbrev pub the_param : List ℕ → List Token → Range → TypeFnParam → Option TsFnParam
the_param x ts r (view.This word mark ty) = this r (slice_get ts word) mark (held x ts ty.entries.now)
the_param x ts r (view.Marked pat mark) =
    marked r (type_name_in (valued x ts pat)) (type_pat_in (valued x ts pat)) (held x ts mark.entries.now)
the_param x ts r (view.Pattern node) = option_map (param_of r) (type_pat_in (valued x ts node))
the_param x ts r view.Broken = None

-- the parts take fewer entries
abbrev pub IsBelow : Siblings → TypeFnParam → Type 0
IsBelow n (view.This word mark ty) = Within ty n
IsBelow n (view.Marked pat mark) = Under pat n × Within mark n
IsBelow n (view.Pattern node) = Within node.parts n
IsBelow n view.Broken = Unit {0}
