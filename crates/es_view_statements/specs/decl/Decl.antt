-- What a view of a declaration tells.
use Rattle.std.specs.Prelude.{ℕ, Bool, true, false, List, [], ◌∷◌, Option, Some, None, option_map, slice_get}
use Rattle.base.specs.declared.range.Range.{Range}
use Rattle.es_token.specs.declared.token.Token.{Token}
use Rattle.es_grammar.specs.declared.rows.NodeKind.{NodeKind}
use Rattle.es_grammar.specs.declared.rows.NodeKind.TheVariants as l
use Rattle.es_ast.specs.declared.ast.Decl.{Decl as ADecl}
use Rattle.es_ast.specs.declared.ast.Decl.TheVariants as vDecl
use Rattle.es_ast.specs.declared.ast.VarDeclarator.{VarDeclarator}
use Rattle.es_lowering.specs.Value.{Value, given, turns, declarator_at}
use Rattle.es_lowering.specs.Operators.{listed, variable_kinds}
use Rattle.es_lowering.specs.Functions.{function}
use Rattle.es_lowering.specs.Classes.{class_}
use Rattle.es_lowering.specs.Statements.{Variables, decl_of, using_kind}
use Rattle.es_lowering.specs.TypedStatements.{Declarable}
use Rattle.es_syntax.specs.declared.cursor.Siblings.{Siblings}
use Rattle.es_syntax.specs.Held.{held, valued}
use Rattle.es_syntax.specs.Roles.{declarable_in, declarator_in, variables_in}
use Rattle.es_syntax.specs.Views.{Under, Within}
use Rattle.es_view_statements.specs.declared.decl.decl.Decl.{Decl}
use Rattle.es_view_statements.specs.declared.decl.decl.Decl.TheVariants as view

-- the alternatives
abbrev pub declarations : List NodeKind
declarations =
    l.Function ∷ l.AsyncFunction ∷ l.Class ∷ l.VariableDeclaration ∷ l.UsingDeclaration ∷ l.Variables ∷ l.Using ∷
    l.Declared ∷ l.DeclaredVariables ∷ l.TypedFunction ∷ l.TypedAsyncFunction ∷ l.TypedClass ∷ l.AbstractClass ∷
    l.InterfaceDeclaration ∷ l.AliasDeclaration ∷ l.EnumDeclaration ∷ l.NamespaceDeclaration ∷ l.ModuleDeclaration ∷
    l.GlobalDeclaration ∷ []

-- ---- each form, of what its parts are
unfoldable pub var_decl : Range → Option Variables → Option ADecl
var_decl r variables = option_map (decl_of r) variables

unfoldable pub var_of : Range → Option Token → Option VarDeclarator → Value → Option ADecl
var_of r word first others =
    option_map (decl_of r) (given (given (option_map (λ t. t.kind) word) (listed variable_kinds)) (λ kind.
    given (given first (λ first.
    given (turns (λ turn. declarator_at turn 0) others) (λ others.
    Some (first ∷ others)))) (λ decls. Some (kind, decls))))

unfoldable pub using_of : Range → Bool → Option VarDeclarator → Value → Option ADecl
using_of r is_await first others =
    option_map (decl_of r) (given (given first (λ first.
    given (turns (λ turn. declarator_at turn 0) others) (λ others.
    Some (first ∷ others)))) (λ decls. Some (using_kind is_await, decls)))

unfoldable pub declared : Range → Option Declarable → Option ADecl
declared r decl = option_map (λ decl. decl true r) decl

unfoldable pub declared_variables : Range → Option Variables → Option ADecl
declared_variables r variables = option_map (λ v. vDecl.Var true v.0 v.1 r) variables

-- what a view tells
abbrev pub the_decl : List ℕ → List Token → Range → Decl → Option ADecl
the_decl x ts r (view.Function is_async parts) =
    option_map (λ function. vDecl.Fn false function r) (function x ts is_async r (held x ts parts.entries.now))
the_decl x ts r (view.Class parts) =
    option_map (λ class. vDecl.Class false class r) (class_ x ts r (held x ts parts.entries.now))
the_decl x ts r (view.Variables variables) = var_decl r (variables_in (valued x ts variables))
the_decl x ts r (view.Var word first others) =
    var_of r (slice_get ts word) (declarator_in (valued x ts first)) (held x ts others.entries.now)
the_decl x ts r (view.Using is_await first others) =
    using_of r is_await (declarator_in (valued x ts first)) (held x ts others.entries.now)
the_decl x ts r (view.Declared decl) = declared r (declarable_in (valued x ts decl))
the_decl x ts r (view.DeclaredVariables variables) = declared_variables r (variables_in (valued x ts variables))
the_decl x ts r (view.Declarable node) = option_map (λ decl. decl false r) (declarable_in (valued x ts node))
the_decl x ts r view.Broken = None

-- the parts take fewer entries
abbrev pub IsBelow : Siblings → Decl → Type 0
IsBelow n (view.Function is_async parts) = Within parts n
IsBelow n (view.Class parts) = Within parts n
IsBelow n (view.Variables variables) = Under variables n
IsBelow n (view.Var word first others) = Under first n × Within others n
IsBelow n (view.Using is_await first others) = Under first n × Within others n
IsBelow n (view.Declared decl) = Under decl n
IsBelow n (view.DeclaredVariables variables) = Under variables n
IsBelow n (view.Declarable node) = Within node.parts n
IsBelow n view.Broken = Unit {0}
