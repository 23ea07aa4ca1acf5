-- Programs and the items of modules in both languages (ECMA-262, "Scripts and Modules"; the handbook of TypeScript,
-- "Modules").
use Rattle.std.specs.Prelude.{◌+◌, false, ◌||◌, if◌then◌else◌}
use Rattle.es_token.specs.declared.token.TokenKind.TheVariants as k
use Rattle.grammar_theory.specs.declared.error.Lang.{Lang}
use Rattle.grammar_theory.specs.Languages.{typed}
use Rattle.grammar_theory.specs.Key.{seen, is, is_token}
use Rattle.grammar_theory.specs.Productions.{as_raw, by_lookahead, greedy, Predicate, Rhs, done, tok, punct, row, opt, many, Production, make, choose, pick}
use Rattle.es_grammar.specs.types.Words.{only}
use Rattle.es_grammar.specs.types.Modules as modules
use Rattle.es_grammar.specs.types.Items as items
use Rattle.es_grammar.specs.types.Modules.{ended}
use Rattle.es_grammar.specs.declared.rows.NodeKind.TheVariants.{ExportAssignment, ExportDeclaration, ExportDefaultClass, ExportDefaultExpression, ExportDefaultFunction, ExportDefaultInterface, Module, Script}
use Rattle.es_grammar.specs.declared.rows.Context.{Context}
use Rattle.es_grammar.specs.declared.rows.Row.{Row}
use Rattle.es_grammar.specs.declared.rows.NodeKind.{NodeKind}
use Rattle.es_grammar.specs.declared.rows.Row.TheVariants.{ItemRow, StatementRow, DeclarationRow, DeclaredRow, FunctionRow, ClassRow, ExpressionRow, AssignmentRow}
use Rattle.es_grammar.specs.Rows.{in_module, in_script}
use Rattle.es_grammar.specs.Embedding.{typed_before}
use Rattle.es_grammar.specs.Expressions.{opens_abstract_class}
use Rattle.es_grammar.specs.Declarations.{opens_interface, opens_alias, opens_enum, opens_namespace, opens_module, opens_global, opens_declare, statement}

-- behind `export default` stands a class, in TypeScript also an abstract one
unfoldable pub opens_any_default_class : Lang → Predicate
opens_any_default_class l K at =
    if typed l then items.opens_default_class K at || opens_abstract_class K (at + 2) else items.opens_default_class K at

unfoldable pub opens_default_interface : Predicate
opens_default_interface K at = opens_interface K (at + 2)

-- 'export' 'default' Assign END
unfoldable pub default_expression : Context → Production Row NodeKind
default_expression c =
    make ExportDefaultExpression (punct k.ExportWord (punct k.DefaultWord (row
    (AssignmentRow c) ended)))

-- TS 'export' 'default' Interface
unfoldable pub default_interface : Context → Production Row NodeKind
default_interface c = make ExportDefaultInterface (punct k.ExportWord (punct k.DefaultWord (row (DeclaredRow c) done)))

unfoldable pub other_default : Lang → Context → Production Row NodeKind
other_default l c = typed_before l (pick opens_default_interface (default_interface c)) (default_expression c)

-- 'export' 'default' (Fn | Class | TS Interface | Assign END)
unfoldable pub export_default : Lang → Context → Production Row NodeKind
export_default l c =
    pick items.opens_default_function
    (make ExportDefaultFunction (punct k.ExportWord (punct k.DefaultWord (row (FunctionRow false c) done))))
    (pick (opens_any_default_class l)
    (make ExportDefaultClass (punct k.ExportWord (punct k.DefaultWord (row (ClassRow false c) done))))
    (other_default l c))

-- behind `export` stands a declaration
unfoldable pub opens_any_declaration : Lang → Predicate
opens_any_declaration l K at =
    if typed l then items.opens_declaration K at || (opens_enum K (at + 1) || (opens_declare K (at + 1)
    || (opens_abstract_class K (at + 1) || (opens_interface K (at + 1) || (opens_alias K (at + 1)
    || (opens_namespace K (at + 1) || (opens_module K (at + 1) || opens_global K (at + 1))))))))
    else items.opens_declaration K at

unfoldable pub opens_export_assignment : Predicate
opens_export_assignment K at = is k.Equal (seen K (at + 1))

-- Export of names, with those of Modules.antt; TS 'export' '=' Expr END
unfoldable pub export_names : Lang → Context → Production Row NodeKind
export_names l c =
    typed_before l (pick opens_export_assignment
    (make ExportAssignment (punct k.ExportWord (punct k.Equal (row (ExpressionRow c) ended)))))
    (modules.export_ l)

-- Export: 'export' Decl | 'export' 'default' (Fn | Class | TS Interface | Assign END), and of names
unfoldable pub export_item : Lang → Context → Production Row NodeKind
export_item l c =
    pick items.opens_default (export_default l c)
    (pick (opens_any_declaration l)
    (make ExportDeclaration (punct k.ExportWord (row (DeclarationRow c) done)))
    (export_names l c))

-- Item: Import | Export | Stmt
unfoldable pub item : Lang → Context → Production Row NodeKind
item l c =
    pick items.opens_import (modules.import_ l)
    (choose (is k.ExportWord) (export_item l c) (statement l c))

-- Shebang?, and what stands behind it
unfoldable pub shebang_in : Rhs Row → Rhs Row
shebang_in f = opt (greedy (is k.Shebang)) (tok as_raw (only k.Shebang) done) f

-- Module: Shebang? Item*
unfoldable pub module_ : Production Row NodeKind
module_ = make Module (shebang_in (many (by_lookahead is_token) (row (ItemRow in_module) done) done))

-- Script: Shebang? Stmt*
unfoldable pub script : Production Row NodeKind
script = make Script (shebang_in (many (by_lookahead is_token) (row (StatementRow in_script) done) done))
