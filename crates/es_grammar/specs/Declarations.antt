-- Declarations in both languages (ECMA-262, "Statements and Declarations"; the handbook of TypeScript, "Everyday
-- Types", "Enums", "Namespaces", "Declaration Merging"), and statements, which they are.
use Rattle.std.specs.Prelude.{◌+◌, Bool, not, ◌&&◌, ◌||◌, true, false}
use Rattle.es_token.specs.declared.token.TokenKind.{TokenKind}
use Rattle.es_token.specs.declared.token.TokenKind.TheVariants as k
use Rattle.grammar_theory.specs.declared.error.Lang.{Lang}
use Rattle.grammar_theory.specs.Key.{seen, same_kind, has_kind, is}
use Rattle.grammar_theory.specs.Productions.{as_str, as_name, as_kind, as_there, by_lookahead, greedy, Predicate, Rhs, done, tok, punct, row, opt, many, alt, when_, Production, make, choose, pick}
use Rattle.es_grammar.specs.types.Words.{only, is_name, is_near, is_other}
use Rattle.es_grammar.specs.declared.rows.NodeKind.TheVariants.{AliasDeclaration, Declared, DeclaredVariables, EmptyStatement, EnumDeclaration, GlobalDeclaration, InterfaceDeclaration, ModuleDeclaration, NamespaceDeclaration, UsingDeclaration, VariableDeclaration}
use Rattle.es_grammar.specs.declared.types.rows.TypeRow.TheVariants as types
use Rattle.es_grammar.specs.types.Modules.{ended}
use Rattle.es_grammar.specs.types.Expressions.{opens_async_function}
use Rattle.es_grammar.specs.types.Statements.{is_variable_word, opens_using}
use Rattle.es_grammar.specs.declared.rows.Context.{Context}
use Rattle.es_grammar.specs.declared.rows.Row.{Row}
use Rattle.es_grammar.specs.declared.rows.NodeKind.{NodeKind}
use Rattle.es_grammar.specs.declared.rows.Row.TheVariants.{ItemRow, EntityRow, VariablesRow, UsingRow, DeclaredRow, KeyRow, TypesRow}
use Rattle.es_grammar.specs.Rows.{outside}
use Rattle.es_grammar.specs.Embedding.{type_then, type_parameters_in, typed_before}
use Rattle.es_grammar.specs.Expressions.{function, async_function, class_, abstract_class, opens_abstract_class, references_in}
use Rattle.es_grammar.specs.Functions.{default_in}
use Rattle.es_grammar.specs.Statements.{block, keyword_statement, other_statement}

-- ---- what heads a declaration of TypeScript

-- a word before a name on its line
abbrev pub heads_name : TokenKind → Predicate
heads_name word K at = is word (seen K at) && (is_near (seen K (at + 1)) && has_kind is_name (seen K (at + 1)))

unfoldable pub opens_interface : Predicate
opens_interface K at = heads_name k.InterfaceWord K at

unfoldable pub opens_alias : Predicate
opens_alias K at = heads_name k.TypeWord K at

-- `enum`, and `const enum`
unfoldable pub opens_enum : Predicate
opens_enum K at = is k.EnumWord (seen K at) || (is k.ConstWord (seen K at) && is k.EnumWord (seen K (at + 1)))

-- `namespace` and `module` before a name on their line
unfoldable pub opens_namespace : Predicate
opens_namespace K at = heads_name k.NamespaceWord K at || heads_name k.ModuleWord K at

-- `module` before a Str on its line
unfoldable pub opens_module : Predicate
opens_module K at = is k.ModuleWord (seen K at) && (is_near (seen K (at + 1)) && is k.Str (seen K (at + 1)))

-- `global` before `{`
unfoldable pub opens_global : Predicate
opens_global K at = is k.GlobalWord (seen K at) && is k.OpenBrace (seen K (at + 1))

-- a word of a declaration, which may stand behind `declare`
unfoldable pub is_declaration_word : TokenKind → Bool
is_declaration_word kind =
    is_variable_word kind || (same_kind kind k.FunctionWord || (same_kind kind k.ClassWord
    || (same_kind kind k.EnumWord || (same_kind kind k.AbstractWord || (same_kind kind k.AsyncWord
    || (same_kind kind k.InterfaceWord || (same_kind kind k.TypeWord || (same_kind kind k.NamespaceWord
    || (same_kind kind k.ModuleWord || same_kind kind k.GlobalWord)))))))))

-- `declare` before such a word on its line
unfoldable pub opens_declare : Predicate
opens_declare K at =
    is k.DeclareWord (seen K at) && (is_near (seen K (at + 1)) && has_kind is_declaration_word (seen K (at + 1)))

-- ---- interfaces, aliases, enums

-- '{' TMember* '}'
unfoldable pub type_members : Rhs Row
type_members =
    punct k.OpenBrace (many (by_lookahead (is_other k.CloseBrace)) (row (TypesRow types.MemberRow) done)
    (punct k.CloseBrace done))

-- InterfaceDeclaration: 'interface' Name TParams? ('extends' Ref%+)? '{' TMember* '}'
unfoldable pub interface : Production Row NodeKind
interface =
    make InterfaceDeclaration (punct k.InterfaceWord (tok as_name is_name (type_parameters_in
    (opt (greedy (is k.ExtendsWord)) (punct k.ExtendsWord (references_in done)) type_members))))

-- AliasDeclaration: 'type' Name TParams? '=' Type END
unfoldable pub alias : Production Row NodeKind
alias =
    make AliasDeclaration (punct k.TypeWord (tok as_name is_name (type_parameters_in (punct k.Equal (type_then
    ended)))))

-- EnumDeclaration: 'const'? 'enum' Name '{' (Key ('=' Assign)?)% '}'
unfoldable pub enum_ : Context → Production Row NodeKind
enum_ c =
    make EnumDeclaration (opt (greedy (is k.ConstWord)) (tok as_there (only k.ConstWord) done)
    (punct k.EnumWord (tok as_name is_name (punct k.OpenBrace
    (many (by_lookahead (is_other k.CloseBrace))
    (row (KeyRow false (outside c)) (default_in c (opt (greedy (is_other k.CloseBrace)) (punct k.Comma done) done)))
    (punct k.CloseBrace done))))))

-- ---- namespaces

-- '{' Item* '}'
unfoldable pub items_in : Context → Rhs Row
items_in c =
    punct k.OpenBrace (many (by_lookahead (is_other k.CloseBrace)) (row (ItemRow c) done) (punct k.CloseBrace done))

unfoldable pub is_namespace_word : TokenKind → Bool
is_namespace_word kind = same_kind kind k.NamespaceWord || same_kind kind k.ModuleWord

-- ('namespace' | 'module') Entity '{' Item* '}'
unfoldable pub namespace : Context → Production Row NodeKind
namespace c = make NamespaceDeclaration (tok as_kind is_namespace_word (row EntityRow (items_in c)))

-- 'module' Str ('{' Item* '}' | END), where a `{` opens the items on a new line too
unfoldable pub module_namespace : Context → Production Row NodeKind
module_namespace c =
    make ModuleDeclaration (punct k.ModuleWord (tok as_str (only k.Str) (alt (is k.OpenBrace) (items_in c)
    (when_ (is_other k.OpenBrace) ended) done)))

-- 'global' '{' Item* '}'
unfoldable pub global : Context → Production Row NodeKind
global c = make GlobalDeclaration (punct k.GlobalWord (items_in c))

-- ---- declarations

-- InterfaceDeclaration | AliasDeclaration | EnumDeclaration | Space, and in place of these another rule
unfoldable pub typed_declaration : Context → Production Row NodeKind → Production Row NodeKind
typed_declaration c other =
    pick opens_interface interface
    (pick opens_alias alias
    (pick opens_namespace (namespace c)
    (pick opens_module (module_namespace c)
    (pick opens_global (global c) other))))

-- what stands behind `declare` besides variables:
-- Fn | Class | InterfaceDeclaration | AliasDeclaration | EnumDeclaration | Space
unfoldable pub declared : Lang → Context → Production Row NodeKind
declared l c =
    pick opens_enum (enum_ c)
    (choose (is k.FunctionWord) (function l true c)
    (choose (is k.ClassWord) (class_ l true c)
    (pick opens_abstract_class (abstract_class l true c)
    (typed_declaration c (async_function l true c)))))

unfoldable pub declares_variables : Predicate
declares_variables K at = has_kind is_variable_word (seen K (at + 1)) && not (opens_enum K (at + 1))

-- TS 'declare' (Var END | Fn | Class | InterfaceDeclaration | AliasDeclaration | EnumDeclaration | Space)
unfoldable pub declare : Context → Production Row NodeKind
declare c =
    pick declares_variables (make DeclaredVariables (punct k.DeclareWord (row (VariablesRow c) ended)))
    (make Declared (punct k.DeclareWord (row (DeclaredRow c) done)))

-- Var END | Using END | Fn | Class
unfoldable pub plain_declaration : Lang → Context → Production Row NodeKind → Production Row NodeKind
plain_declaration l c other =
    choose (has_kind is_variable_word) (make VariableDeclaration (row (VariablesRow c) ended))
    (choose (is k.FunctionWord) (function l true c)
    (choose (is k.ClassWord) (class_ l true c)
    (pick opens_using (make UsingDeclaration (row (UsingRow c) ended))
    (pick opens_async_function (async_function l true c) other))))

-- the declarations of TypeScript alone, and in place of these another rule
abbrev pub declaration_of_types : Lang → Context → Production Row NodeKind → Production Row NodeKind
declaration_of_types l c other =
    pick opens_enum (enum_ c)
    (pick opens_declare (declare c)
    (pick opens_abstract_class (abstract_class l true c) (typed_declaration c other)))

-- Decl: Var END | Using END | Fn | Class
--       | TS 'declare'? (InterfaceDeclaration | AliasDeclaration | EnumDeclaration | Space)
--       | TS 'declare' (Var END | Fn | Class)
unfoldable pub declaration : Lang → Context → Production Row NodeKind → Production Row NodeKind
declaration l c other = typed_before l (declaration_of_types l c) (plain_declaration l c other)

-- Stmt
unfoldable pub statement : Lang → Context → Production Row NodeKind
statement l c =
    choose (is k.OpenBrace) (block c)
    (choose (is k.Semicolon) (make EmptyStatement (punct k.Semicolon done))
    (keyword_statement l c (declaration l c (other_statement c))))
