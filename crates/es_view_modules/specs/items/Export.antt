-- What a view of an export tells.
use Rattle.std.specs.Prelude.{ℕ, Bool, List, [], ◌∷◌, Option, Some, None, option_map, slice_get}
use Rattle.base.specs.declared.range.Range.{Range}
use Rattle.es_token.specs.declared.token.Token.{Token}
use Rattle.es_grammar.specs.declared.rows.NodeKind.{NodeKind}
use Rattle.es_grammar.specs.declared.rows.NodeKind.TheVariants as l
use Rattle.es_ast.specs.declared.ast.ModuleDecl.{ModuleDecl}
use Rattle.es_ast.specs.declared.ast.ModuleDecl.TheVariants as vModuleDecl
use Rattle.es_ast.specs.declared.ast.Expr.{Expr}
use Rattle.es_ast.specs.declared.ast.Decl.{Decl}
use Rattle.es_lowering.specs.Value.{Value, given, optional, turns, group, attributes_at, export_specifier_at}
use Rattle.es_lowering.specs.Texts.{ident_of, str_of, name_at}
use Rattle.es_lowering.specs.Modules.{source_with, with_of}
use Rattle.es_syntax.specs.declared.cursor.Siblings.{Siblings}
use Rattle.es_syntax.specs.Held.{held, valued}
use Rattle.es_syntax.specs.Roles.{decl_in, expr_in}
use Rattle.es_syntax.specs.Views.{Under, Within}
use Rattle.es_view_modules.specs.declared.items.export.Export.{Export}
use Rattle.es_view_modules.specs.declared.items.export.Export.TheVariants as view

-- the alternatives
abbrev pub exports : List NodeKind
exports =
    l.ExportAll ∷ l.ExportNames ∷ l.ExportNamespace ∷ l.ExportDefaultFunction ∷ l.ExportDefaultClass ∷
    l.ExportDefaultInterface ∷ l.ExportDefaultExpression ∷ l.ExportDeclaration ∷ l.ExportAssignment ∷ []

-- ---- each form, of what its parts are
unfoldable pub all : List ℕ → List Token → Range → Bool → Value → Option Token → Value → Option ModuleDecl
all x ts r type_only exported source attributes =
    given (optional (λ g n. name_at x ts (group g n) 0) exported) (λ exported.
    given (option_map (str_of x) source) (λ src.
    given (optional attributes_at attributes) (λ with.
    Some (vModuleDecl.ExportAll (record
    { type_only = type_only; exported = exported; src = src; with = with; span = r })))))

unfoldable pub names : List ℕ → List Token → Range → Bool → Value → Value → Option ModuleDecl
names x ts r type_only specifiers source =
    given (turns (λ turn. export_specifier_at turn 0) specifiers) (λ specifiers.
    given (optional (source_with x ts) source) (λ source.
    Some (vModuleDecl.ExportNamed (record {
      type_only = type_only;
      specifiers = specifiers;
      src = option_map (λ source. source.0) source;
      with = with_of
          source;
      span = r;
    }))))

unfoldable pub namespace : List ℕ → Range → Option Token → Option ModuleDecl
namespace x r name =
    option_map (λ id. vModuleDecl.TsNamespaceExport (record { id = id; span = r })) (option_map (ident_of x) name)

unfoldable pub default_decl : Range → Option Decl → Option ModuleDecl
default_decl r decl = option_map (λ decl. vModuleDecl.ExportDefaultDecl decl r) decl

unfoldable pub default_expr : Range → Option Expr → Option ModuleDecl
default_expr r expr = option_map (λ expr. vModuleDecl.ExportDefaultExpr expr r) expr

unfoldable pub declaration : Range → Option Decl → Option ModuleDecl
declaration r decl = option_map (λ decl. vModuleDecl.ExportDecl decl r) decl

unfoldable pub assignment : Range → Option Expr → Option ModuleDecl
assignment r expr = option_map (λ e. vModuleDecl.TsExportAssignment e r) expr

-- what a view tells
abbrev pub the_export : List ℕ → List Token → Range → Export → Option ModuleDecl
the_export x ts r (view.All type_only exported source attributes) =
    all x ts r type_only (held x ts exported.entries.now) (slice_get ts source) (held x ts attributes.entries.now)
the_export x ts r (view.Names type_only specifiers source) =
    names x ts r type_only (held x ts specifiers.entries.now) (held x ts source.entries.now)
the_export x ts r (view.Namespace name) = namespace x r (slice_get ts name)
the_export x ts r (view.DefaultDecl decl) = default_decl r (decl_in (valued x ts decl))
the_export x ts r (view.DefaultExpr expr) = default_expr r (expr_in (valued x ts expr))
the_export x ts r (view.Decl decl) = declaration r (decl_in (valued x ts decl))
the_export x ts r (view.Assignment expr) = assignment r (expr_in (valued x ts expr))
the_export x ts r view.Broken = None

-- the parts take fewer entries
abbrev pub IsBelow : Siblings → Export → Type 0
IsBelow n (view.All type_only exported source attributes) = Within exported n × Within attributes n
IsBelow n (view.Names type_only specifiers source) = Within specifiers n × Within source n
IsBelow n (view.Namespace name) = Unit {0}
IsBelow n (view.DefaultDecl decl) = Under decl n
IsBelow n (view.DefaultExpr expr) = Under expr n
IsBelow n (view.Decl decl) = Under decl n
IsBelow n (view.Assignment expr) = Under expr n
IsBelow n view.Broken = Unit {0}
