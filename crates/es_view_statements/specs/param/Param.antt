-- What a view of a parameter tells.
use Rattle.std.specs.Prelude.{ℕ, Bool, List, [], ◌∷◌, Option, Some, None, option_map}
use Rattle.base.specs.declared.range.Range.{Range}
use Rattle.es_token.specs.declared.token.Token.{Token}
use Rattle.es_grammar.specs.declared.rows.NodeKind.{NodeKind}
use Rattle.es_grammar.specs.declared.rows.NodeKind.TheVariants as l
use Rattle.es_ast.specs.declared.ts.ts.TsPart.TheVariants as vPart
use Rattle.es_ast.specs.declared.ts.ts.TsPart.{TsPart}
use Rattle.es_ast.specs.declared.ast.Expr.{Expr}
use Rattle.es_ast.specs.declared.ast.Pat.{Pat}
use Rattle.es_ast.specs.declared.ast.Pat.TheVariants as vPat
use Rattle.es_ast.specs.declared.ast.Param.{Param as AParam}
use Rattle.es_lowering.specs.Value.{Value, given, optional, is_there, first_of, behind, expr_at, type_at}
use Rattle.es_lowering.specs.Texts.{span_of, token_of}
use Rattle.es_lowering.specs.Patterns.{with_default}
use Rattle.es_lowering.specs.Functions.{plain, param_of}
use Rattle.es_lowering.specs.TypedParts.{marked_by, modifiers_in, param_by}
use Rattle.es_lowering.specs.TypeNames.{behind_in}
use Rattle.es_syntax.specs.declared.cursor.Siblings.{Siblings}
use Rattle.es_syntax.specs.Held.{held, valued}
use Rattle.es_syntax.specs.Roles.{expr_in, marked_in, pat_in}
use Rattle.es_syntax.specs.Views.{Under, Within}
use Rattle.es_view_statements.specs.declared.param.param.Param.{Param}
use Rattle.es_view_statements.specs.declared.param.param.Param.TheVariants as view

-- the alternatives
abbrev pub parameters : List NodeKind
parameters =
    l.DefaultParameter ∷ l.ThisParameter ∷ l.PropertyParameter ∷ l.MarkedParameter ∷ l.NamePattern ∷ l.ArrayPattern ∷
    l.ObjectPattern ∷ l.RestPattern ∷ l.DefaultPattern ∷ []

-- ---- each form, of what its parts are
-- a pattern with `?` or not, with a type behind it or not, over a range
abbrev pub Marked : Type 0
Marked = Bool → Option TsPart → Range → Pat

-- a pattern with a mark, a type and a default or without these: its range without its default, and with it
abbrev pub tailed : Range → Range → Option Marked → Value → Value → Value → Option Pat
tailed typed_span span name mark ty value =
    given (option_map (λ ty. option_map vPart.TypeAnn ty) (optional type_at ty)) (λ ty.
    given (marked_by name (is_there mark) ty typed_span) (λ pat.
    given (optional expr_at value) (λ value. Some (with_default span pat value))))

unfoldable pub default : Range → Option Pat → Option Expr → Option AParam
default r left right = given left (λ left. given right (λ right. Some (param_of r (vPat.Assign left right r))))

unfoldable pub this : List Token → Range → Value → Value → Value → Option AParam
this ts r word ty value =
    given (token_of ts word) (λ t.
    given (option_map (λ ty. option_map vPart.TypeAnn ty) (optional type_at ty)) (λ annotation.
    given (optional expr_at value) (λ value.
    Some (param_by plain r (with_default r
    (vPat.This annotation (span_of ts (first_of word) (behind_in ty (behind word)))) value)))))

unfoldable pub property : List Token → Range → Range → Range → Value → Option Marked → Value → Value → Value
    → Option AParam
property ts r typed_span span modifiers name mark ty value =
    given (modifiers_in ts plain modifiers) (λ modifiers.
    option_map (param_by modifiers r) (tailed typed_span span name mark ty value))

unfoldable pub marked : Range → Range → Range → Option Marked → Value → Value → Value → Option AParam
marked r typed_span span name mark ty value =
    option_map (param_by plain r) (tailed typed_span span name mark ty value)

-- what a view tells
abbrev pub the_param : List ℕ → List Token → Range → Param → Option AParam
the_param x ts r (view.Default left right) = default r (pat_in (valued x ts left)) (expr_in (valued x ts right))
the_param x ts r (view.This word ty value) =
    this ts r (valued x ts word) (held x ts ty.entries.now) (held x ts value.entries.now)
the_param x ts r (view.Property modifiers name mark ty value) =
    property ts r (span_of ts (first_of (valued x ts name))
    (behind_in (held x ts ty.entries.now) (behind_in (held x ts mark.entries.now) (behind (valued x ts name)))))
    (span_of ts (first_of (valued x ts name))
    (behind_in (held x ts value.entries.now)
    (behind_in (held x ts ty.entries.now) (behind_in (held x ts mark.entries.now) (behind (valued x ts name))))))
    (held x ts modifiers.entries.now) (marked_in (valued x ts name)) (held x ts mark.entries.now)
    (held x ts ty.entries.now) (held x ts value.entries.now)
the_param x ts r (view.Marked name mark ty value) =
    marked r (span_of ts (first_of (valued x ts name))
    (behind_in (held x ts ty.entries.now) (behind_in (held x ts mark.entries.now) (behind (valued x ts name)))))
    (span_of ts (first_of (valued x ts name))
    (behind_in (held x ts value.entries.now)
    (behind_in (held x ts ty.entries.now) (behind_in (held x ts mark.entries.now) (behind (valued x ts name))))))
    (marked_in (valued x ts name)) (held x ts mark.entries.now) (held x ts ty.entries.now)
    (held x ts value.entries.now)
the_param x ts r (view.Pattern node) = option_map (param_of r) (pat_in (valued x ts node))
the_param x ts r view.Broken = None

-- the parts take fewer entries
abbrev pub IsBelow : Siblings → Param → Type 0
IsBelow n (view.Default left right) = Under left n × Under right n
IsBelow n (view.This word ty value) = Under word n × Within ty n × Within value n
IsBelow n (view.Property modifiers name mark ty value) =
    Within modifiers n × Under name n × Within mark n × Within ty n × Within value n
IsBelow n (view.Marked name mark ty value) = Under name n × Within mark n × Within ty n × Within value n
IsBelow n (view.Pattern node) = Within node.parts n
IsBelow n view.Broken = Unit {0}
