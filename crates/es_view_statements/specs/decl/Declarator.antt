-- What a view of a declarator tells.
use Rattle.std.specs.Prelude.{ℕ, Bool, false, List, [], ◌∷◌, Option, Some, None, option_map}
use Rattle.base.specs.declared.range.Range.{Range}
use Rattle.es_token.specs.declared.token.Token.{Token}
use Rattle.es_grammar.specs.declared.rows.NodeKind.{NodeKind}
use Rattle.es_grammar.specs.declared.rows.NodeKind.TheVariants as l
use Rattle.es_ast.specs.declared.ts.ts.TsPart.TheVariants as vPart
use Rattle.es_ast.specs.declared.ast.Expr.{Expr}
use Rattle.es_ast.specs.declared.ast.Pat.{Pat}
use Rattle.es_ast.specs.declared.ast.VarDeclarator.{VarDeclarator, roll-VarDeclarator}
use Rattle.es_lowering.specs.Value.{Value, given, optional, expr_at, type_at, first_of, behind}
use Rattle.es_lowering.specs.Statements.{declarator_of}
use Rattle.es_lowering.specs.TypedParts.{marked_by}
use Rattle.es_lowering.specs.Texts.{span_of}
use Rattle.es_lowering.specs.TypeNames.{behind_in}
use Rattle.es_ast.specs.declared.ts.ts.TsPart.{TsPart}
use Rattle.es_syntax.specs.declared.cursor.Siblings.{Siblings}
use Rattle.es_syntax.specs.Held.{held, valued}
use Rattle.es_syntax.specs.Roles.{expr_in, marked_in, pat_in}
use Rattle.es_syntax.specs.Views.{Under, Within}
use Rattle.es_view_statements.specs.declared.decl.declarator.Declarator.{Declarator}
use Rattle.es_view_statements.specs.declared.decl.declarator.Declarator.TheVariants as view

-- the alternatives
abbrev pub declarators : List NodeKind
declarators =
    l.Declarator ∷ l.TypedDeclarator ∷ l.NamePattern ∷ l.ArrayPattern ∷ l.ObjectPattern ∷ l.RestPattern ∷
    l.DefaultPattern ∷ []

-- ---- each form, of what its parts are
-- a pattern with `?` or not, with a type behind it or not, over a range
abbrev pub Marked : Type 0
Marked = Bool → Option TsPart → Range → Pat

unfoldable pub assigned : Range → Option Pat → Option Expr → Option VarDeclarator
assigned r name value = given name (λ pat. given value (λ value. Some (declarator_of r (Some value) pat)))

-- its pattern stands over this range
unfoldable pub typed : Range → Range → Option Marked → Bool → Value → Value → Option VarDeclarator
typed span r name definite ty value =
    given (given (option_map (λ ty. option_map vPart.TypeAnn ty) (optional type_at ty)) (λ ty.
    marked_by name false ty span)) (λ pat.
    given (optional expr_at value) (λ value.
    Some (roll-VarDeclarator (record { name = pat; definite = definite; init = value; span = r }))))

-- what a view tells
abbrev pub the_declarator : List ℕ → List Token → Range → Declarator → Option VarDeclarator
the_declarator x ts r (view.Assigned name value) =
    assigned r (pat_in (valued x ts name)) (expr_in (valued x ts value))
the_declarator x ts r (view.Typed name definite ty value) =
    typed (span_of ts (first_of (valued x ts name))
    (behind_in (held x ts ty.entries.now) (behind (valued x ts name)))) r (marked_in (valued x ts name)) definite
    (held x ts ty.entries.now) (held x ts value.entries.now)
the_declarator x ts r (view.Pattern node) = option_map (declarator_of r None) (pat_in (valued x ts node))
the_declarator x ts r view.Broken = None

-- the parts take fewer entries
abbrev pub IsBelow : Siblings → Declarator → Type 0
IsBelow n (view.Assigned name value) = Under name n × Under value n
IsBelow n (view.Typed name definite ty value) = Under name n × Within ty n × Within value n
IsBelow n (view.Pattern node) = Within node.parts n
IsBelow n view.Broken = Unit {0}
