-- What a view of a word, a literal, a template or a name as a type tells.
use Rattle.std.specs.Prelude.{◌++◌, ℕ, Bool, List, [], ◌∷◌, Option, Some, None, option_map, slice_get}
use Rattle.base.specs.declared.range.Range.{Range}
use Rattle.es_token.specs.declared.token.Token.{Token}
use Rattle.es_grammar.specs.declared.rows.NodeKind.{NodeKind}
use Rattle.es_grammar.specs.declared.rows.NodeKind.TheVariants as l
use Rattle.es_ast.specs.declared.ts.ts.TsType.{TsType}
use Rattle.es_ast.specs.declared.ts.ts.TsType.TheVariants as vType
use Rattle.es_ast.specs.declared.ts.leaf.TsLit.TheVariants as vLit
use Rattle.es_ast.specs.declared.ts.leaf.TsEntityName.{TsEntityName}
use Rattle.es_ast.specs.declared.ts.ts.Nodes.{Nodes}
use Rattle.es_lowering.specs.Value.{Value, given, optional, turns, type_at, arguments_at, entity_at}
use Rattle.es_lowering.specs.Texts.{str_of, piece_of, piece_there}
use Rattle.es_lowering.specs.Operators.{listed}
use Rattle.es_lowering.specs.TypeTexts.{keyword_kinds, numeric_lit}
use Rattle.es_lowering.specs.TypeNames.{named}
use Rattle.es_lowering.specs.Types.{word_of}
use Rattle.es_lowering.specs.Modules.{entity}
use Rattle.es_syntax.specs.declared.cursor.Siblings.{Siblings}
use Rattle.es_syntax.specs.Held.{held, valued}
use Rattle.es_syntax.specs.Roles.{arguments_in, entity_in, ts_type_in}
use Rattle.es_syntax.specs.Views.{Under, Within}
use Rattle.es_view_types.specs.declared.types.simple.SimpleType.{SimpleType}
use Rattle.es_view_types.specs.declared.types.simple.SimpleType.TheVariants as view

-- the alternatives
abbrev pub simple_types : List NodeKind
simple_types =
    l.KeywordType ∷ l.ThisType ∷ l.WordType ∷ l.StrType ∷ l.NumberType ∷ l.TemplateType ∷ l.TemplateTypes ∷
    l.TypeQuery ∷ l.Reference ∷ l.ImportType ∷ l.EntityOfType ∷ []

-- ---- each form, of what its parts are
unfoldable pub keyword : Range → Option Token → Option TsType
keyword r word =
    given (given (option_map (λ t. t.kind) word) (listed keyword_kinds)) (λ kind. Some (vType.Keyword kind r))

unfoldable pub worded : Range → Option Token → Option TsType
worded r word = given (option_map (λ t. t.kind) word) (word_of r)

unfoldable pub str : List ℕ → Option Token → Option TsType
str x token = option_map (λ s. vType.Lit (vLit.Str s)) (option_map (str_of x) token)

unfoldable pub number : List ℕ → Range → Bool → Option Token → Option TsType
number x r minus token = option_map vType.Lit (given token (numeric_lit x minus r))

unfoldable pub template : List ℕ → Range → Option Token → Option TsType
template x r token = option_map (λ piece. vType.Tpl (piece ∷ []) [] r) (given token (piece_of x))

unfoldable pub template_parts : List ℕ → List Token → Range → Option Token → Option TsType → Value → Option Token
    → Option TsType
template_parts x ts r head first others tail =
    given (given head (piece_of x)) (λ head.
    given first (λ first.
    given (turns (λ turn. piece_there x ts turn 0) others) (λ middles.
    given (turns (λ turn. type_at turn 1) others) (λ others.
    given (given tail (piece_of x)) (λ tail. Some (vType.Tpl (head ∷ (middles ++ tail ∷ [])) (first ∷ others) r))))))

unfoldable pub query : Range → Option TsType → Option TsType
query r ty = option_map (λ ty. vType.Query ty r) ty

unfoldable pub reference : Range → Option TsEntityName → Option (Nodes TsType) → Option TsType
reference r name arguments =
    given name (λ name.
    given arguments (λ arguments. Some (vType.Ref name (Some arguments) r)))

unfoldable pub import_of : List ℕ → Range → Option Token → Value → Value → Option TsType
import_of x r source qualifier arguments =
    given (option_map (str_of x) source) (λ arg.
    given (optional entity_at qualifier) (λ qualifier.
    given (optional arguments_at arguments) (λ arguments. Some (vType.Import arg qualifier arguments r))))

-- what a view tells
abbrev pub the_simple : List ℕ → List Token → Range → SimpleType → Option TsType
the_simple x ts r (view.Keyword word) = keyword r (slice_get ts word)
the_simple x ts r view.This = Some (vType.This r)
the_simple x ts r (view.Word word) = worded r (slice_get ts word)
the_simple x ts r (view.Str token) = str x (slice_get ts token)
the_simple x ts r (view.Number minus token) = number x r minus (slice_get ts token)
the_simple x ts r (view.Template token) = template x r (slice_get ts token)
the_simple x ts r (view.TemplateParts head first others tail) =
    template_parts x ts r (slice_get ts head) (ts_type_in (valued x ts first)) (held x ts others.entries.now)
    (slice_get ts tail)
the_simple x ts r (view.Query ty) = query r (ts_type_in (valued x ts ty))
the_simple x ts r (view.Reference name arguments) =
    reference r (entity_in (valued x ts name)) (arguments_in (valued x ts arguments))
the_simple x ts r (view.Import source qualifier arguments) =
    import_of x r (slice_get ts source) (held x ts qualifier.entries.now) (held x ts arguments.entries.now)
the_simple x ts r (view.Entity parts) = option_map (named r) (entity x ts r (held x ts parts.entries.now))
the_simple x ts r view.Broken = None

-- the parts take fewer entries
abbrev pub IsBelow : Siblings → SimpleType → Type 0
IsBelow n (view.Keyword word) = Unit {0}
IsBelow n view.This = Unit {0}
IsBelow n (view.Word word) = Unit {0}
IsBelow n (view.Str token) = Unit {0}
IsBelow n (view.Number minus token) = Unit {0}
IsBelow n (view.Template token) = Unit {0}
IsBelow n (view.TemplateParts head first others tail) = Under first n × Within others n
IsBelow n (view.Query ty) = Under ty n
IsBelow n (view.Reference name arguments) = Under name n × Under arguments n
IsBelow n (view.Import source qualifier arguments) = Within qualifier n × Within arguments n
IsBelow n (view.Entity parts) = Within parts n
IsBelow n view.Broken = Unit {0}
