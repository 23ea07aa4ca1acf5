-- Declarations, classes and functions of TypeScript and their trees: each is what the reader of the table answers, by
-- computing it. A line end is written ⏎.
use Rattle.std.specs.Prelude.{[], ◌∷◌}
use Rattle.std.proofs.Common.{◌≡◌, refl}
use Rattle.es_token.specs.declared.token.TokenKind.TheVariants as k
use Rattle.grammar_theory.specs.declared.error.Lang.TheVariants as lang
use Rattle.grammar_theory.specs.declared.error.Mode.TheVariants as mode
use Rattle.grammar_theory.specs.Productions.{as_kind, as_name, as_raw, as_str, as_there}
use Rattle.grammar_theory.specs.Plain.{node, leaf, nil, cons, mark, turn}
use Rattle.grammar_theory.specs.Reader.{gives}
use Rattle.es_grammar.specs.declared.rows.NodeKind.TheVariants.{AbstractClass, AliasDeclaration, ArrayPattern, ArrayTypes, AssertsResult, Assignment, Block, CallSignature, Declared, DeclaredVariables, Entity, EntityOfType, EnumDeclaration, ExportAssignment, ExpressionStatement, ForEachStatement, FunctionType, GlobalDeclaration, IndexMember, InterfaceDeclaration, KeywordType, MarkedParameter, Module, ModuleDeclaration, Name, NamePattern, NamePatternOfType, NamespaceDeclaration, Number, ParametersOfType, PredicateResult, PropertyParameter, ReadonlyProperty, Reference, StrKey, ThisParameter, TypeArguments, TypeParameters, TypedAccessorField, TypedAccessorMember, TypedAsyncFunction, TypedAsyncMember, TypedClass, TypedDeclarator, TypedFieldMember, TypedFunction, TypedMethodMember, TypedParameters, TypedSignature, TypedTryStatement, TypedVariableHead, UnaryExpression, VariableDeclaration, Variables, WordKey, WordKeyOfType}
use Rattle.es_grammar.specs.types.TypeReader.{joined, line, line_paired, one, paired}
use Rattle.es_grammar.specs.ProgramReader.{read_program}
use Rattle.es_grammar.proofs.OnKeys.{programs_on_keys}

-- variables
variables_read :
    -- let a: b = c
    (read_program lang.Typescript mode.Module (one k.LetWord ∷ one k.Name ∷ one k.Colon ∷ one k.Name ∷ one k.Equal ∷
    one k.Name ∷ []) ≡ gives (node Module 0 6 (cons nil (cons (turn (cons (node VariableDeclaration
    0 6 (cons (node Variables 0 6 (cons (leaf as_kind 0) (cons (node TypedDeclarator 1 6 (cons (node
    NamePattern 1 2 (cons (leaf as_name 1) nil)) (cons nil (cons (mark 2 (cons (node EntityOfType 3 4
    (cons (leaf as_name 3) (cons nil nil))) nil)) (cons (mark 4 (cons (node Name 5 6 (cons (leaf as_name 5)
    nil)) nil)) nil))))) (cons nil nil)))) (cons nil nil))) nil) nil) nil))) 6)
    -- let a!: b, [c]: d
    × (read_program lang.Typescript mode.Module (one k.LetWord ∷ one k.Name ∷ one k.Exclamation ∷ one k.Colon ∷ one
    k.Name ∷ one k.Comma ∷ paired k.OpenBracket 8 ∷ one k.Name ∷ paired k.CloseBracket 6 ∷ one k.Colon ∷ one k.Name ∷
    []) ≡ gives (node Module 0 11 (cons nil (cons (turn (cons (node VariableDeclaration 0 11 (cons
    (node Variables 0 11
    (cons (leaf as_kind 0)
    (cons (node TypedDeclarator 1 5
    (cons (node NamePattern 1 2 (cons (leaf as_name 1) nil))
    (cons (cons (leaf as_there 2) nil)
    (cons (mark 3 (cons (node EntityOfType 4 5 (cons (leaf as_name 4) (cons nil nil))) nil))
    (cons nil nil))))) (cons (turn (mark 5 (cons (node
    TypedDeclarator 6 11
    (cons (node ArrayPattern 6 9
    (mark 6 (cons (turn (cons (cons (node NamePattern 7 8 (cons (leaf as_name 7) nil)) (cons nil nil)) nil)
    nil) (mark 8 nil)))) (cons nil (cons (mark 9
    (cons (node EntityOfType 10 11 (cons (leaf as_name 10) (cons nil nil))) nil)) (cons nil nil))))) nil))
    nil) nil)))) (cons nil nil))) nil) nil) nil))) 11)
    -- let a: (b) => c = d
    × (read_program lang.Typescript mode.Module (one k.LetWord ∷ one k.Name ∷ one k.Colon ∷ paired k.OpenParen 5 ∷ one
    k.Name ∷ paired k.CloseParen 3 ∷ one k.Arrow ∷ one k.Name ∷ one k.Equal ∷ one k.Name ∷ [])
    ≡ gives (node Module 0 10 (cons nil (cons (turn (cons (node VariableDeclaration 0 10 (cons (node Variables 0
    10 (cons (leaf as_kind 0) (cons (node TypedDeclarator 1 10 (cons (node NamePattern 1 2 (cons (leaf
    as_name 1) nil)) (cons nil (cons (mark 2 (cons (node FunctionType 3 8 (cons nil (mark 3 (cons (node
    ParametersOfType 4 5 (cons (turn (cons (node NamePatternOfType 4 5 (cons (leaf as_name 4) nil))
    (cons nil nil)) nil) (cons nil nil))) (mark 5 (mark 6 (cons (node EntityOfType 7 8 (cons (leaf as_name 7)
    (cons nil nil))) nil))))))) nil)) (cons (mark 8 (cons (node Name 9 10 (cons (leaf as_name 9) nil)) nil))
    nil))))) (cons nil nil)))) (cons nil nil))) nil) nil) nil))) 10)
    -- declare let a: b
    × (read_program lang.Typescript mode.Module (one k.DeclareWord ∷ one k.LetWord ∷ one k.Name ∷ one k.Colon ∷ one
    k.Name ∷ []) ≡ gives (node Module 0 5 (cons nil (cons (turn (cons (node DeclaredVariables 0 5 (mark 0
    (cons (node Variables 1 5
    (cons (leaf as_kind 1)
    (cons (node TypedDeclarator 2 5
    (cons (node NamePattern 2 3 (cons (leaf as_name 2) nil))
    (cons nil (cons (mark 3 (cons (node EntityOfType 4 5 (cons
    (leaf as_name 4) (cons nil nil))) nil)) (cons nil nil))))) (cons nil nil)))) (cons nil nil)))) nil) nil) nil))) 5)
    -- for (let a: b of c) d
    × (read_program lang.Typescript mode.Module (one k.ForWord ∷ paired k.OpenParen 8 ∷ one k.LetWord ∷ one k.Name ∷
    one k.Colon ∷ one k.Name ∷ one k.OfWord ∷ one k.Name ∷ paired k.CloseParen 1 ∷ one k.Name ∷ []) ≡ gives (node
    Module 0 10 (cons nil (cons (turn (cons (node ForEachStatement 0 10 (mark 0 (mark 1 (cons (node
    TypedVariableHead 2 6 (cons (leaf as_kind 2) (cons (node NamePattern 3 4 (cons (leaf as_name 3) nil))
    (cons (mark 4 (cons (node EntityOfType 5 6 (cons (leaf as_name 5) (cons nil nil))) nil)) nil)))) (cons
    (cons (leaf as_kind 6) (cons (node Name 7 8 (cons (leaf as_name 7) nil)) nil)) (mark 8 (cons (node
    ExpressionStatement 9 10 (cons (node Name 9 10 (cons (leaf as_name 9) nil)) (cons nil nil)))
    nil))))))) nil) nil) nil))) 10)
    -- try { } catch (a: b) { }
    × (read_program lang.Typescript mode.Module (one k.TryWord ∷ paired k.OpenBrace 2 ∷ paired k.CloseBrace 1 ∷ one
    k.CatchWord ∷ paired k.OpenParen 8 ∷ one k.Name ∷ one k.Colon ∷ one k.Name ∷ paired k.CloseParen 4 ∷ paired
    k.OpenBrace 10 ∷ paired k.CloseBrace 9 ∷ []) ≡ gives (node Module 0 11 (cons nil (cons (turn (cons (node
    TypedTryStatement 0 11 (mark 0 (cons (node Block 1 3 (mark 1 (cons nil (mark 2 nil)))) (cons (mark 3
    (cons (mark 4 (cons (node NamePattern 5 6 (cons (leaf as_name 5) nil))
    (cons (mark 6 (cons (node EntityOfType 7 8 (cons (leaf as_name 7) (cons nil nil))) nil)) (mark 8 nil))))
    (cons (node Block 9 11
    (mark 9 (cons nil (mark 10 nil)))) (cons nil nil)))) nil)))) nil) nil) nil))) 11)
    -- var a = b⏎!c
    × (read_program lang.Typescript mode.Module (one k.VarWord ∷ one k.Name ∷ one k.Equal ∷ one k.Name ∷ line
    k.Exclamation ∷ one k.Name ∷ [])
    ≡ gives (node Module 0 6
    (cons nil (cons (turn
    (cons (node VariableDeclaration 0 4
    (cons (node Variables 0 4 (cons (leaf as_kind 0) (cons (node TypedDeclarator
    1 4 (cons (node NamePattern 1 2 (cons (leaf as_name 1) nil)) (cons nil (cons nil (cons (mark 2 (cons
    (node Name 3 4 (cons (leaf as_name 3) nil)) nil)) nil))))) (cons nil nil)))) (cons nil nil))) nil) (turn
    (cons (node ExpressionStatement 4 6 (cons (node UnaryExpression 4 6 (cons (leaf as_kind 4) (cons
    (node Name 5 6 (cons (leaf as_name 5) nil)) nil))) (cons nil nil))) nil) nil)) nil))) 6)
unfolding programs_on_keys
variables_read =
    (refl, refl, refl, refl, refl, refl, refl)

-- functions and their parameters
functions_read :
    -- function f<T>(this: A, a?: B, ...c: D[]): E { }
    (read_program lang.Typescript mode.Module (one k.FunctionWord ∷ one k.Name ∷ one k.Less ∷ one k.Name ∷ joined
    k.Greater ∷ paired k.OpenParen 21 ∷ one k.ThisWord ∷ one k.Colon ∷ one k.Name ∷ one k.Comma ∷ one k.Name ∷ one
    k.Question ∷ one k.Colon ∷ one k.Name ∷ one k.Comma ∷ one k.Ellipsis ∷ one k.Name ∷ one k.Colon ∷ one k.Name ∷
    paired k.OpenBracket 20 ∷ paired k.CloseBracket 19 ∷ paired k.CloseParen 5 ∷ one k.Colon ∷ one k.Name ∷ paired
    k.OpenBrace 25 ∷ paired k.CloseBrace 24 ∷ []) ≡ gives (node Module 0 26 (cons nil (cons (turn (cons (node
    TypedFunction 0 26 (mark 0 (cons nil (cons (leaf as_name 1) (cons (node TypedSignature 2 24 (cons (cons
    (node TypeParameters 2 5 (mark 2 (cons nil (cons (leaf as_name 3) (cons nil (cons nil (cons nil
    (cons nil (mark 4 nil))))))))) nil) (mark 5 (cons (node TypedParameters 6 21 (cons (turn (cons (node
    ThisParameter 6 9 (cons (leaf as_there 6) (cons nil (cons (mark 7 (cons (node EntityOfType 8 9 (cons (leaf
    as_name 8) (cons nil nil))) nil)) (cons nil nil))))) (cons (mark 9 nil) nil)) (turn (cons (node MarkedParameter 10
    14 (cons (node NamePattern 10 11 (cons (leaf as_name 10) nil)) (cons (cons (leaf as_there 11) nil) (cons
    (mark 12 (cons (node EntityOfType 13 14 (cons (leaf as_name 13) (cons nil nil))) nil)) (cons nil nil)))))
    (cons (mark 14 nil) nil)) nil)) (cons (mark 15 (cons (node NamePattern 16 17 (cons (leaf as_name 16)
    nil)) (cons (mark 17 (cons (node ArrayTypes 18 21 (cons (node EntityOfType 18 19 (cons (leaf
    as_name 18) (cons nil nil))) (mark 19 (cons nil (mark 20 (cons nil nil)))))) nil)) nil))) nil))) (mark 21 (cons
    (mark 22 (cons (node EntityOfType 23 24 (cons (leaf as_name 23) (cons nil nil))) nil)) nil)))))) (cons
    (cons (node Block 24 26 (mark 24 (cons nil (mark 25 nil)))) nil) nil)))))) nil) nil) nil))) 26)
    -- function f(a: b = c): asserts a
    × (read_program lang.Typescript mode.Module (one k.FunctionWord ∷ one k.Name ∷ paired k.OpenParen 8 ∷ one k.Name ∷
    one k.Colon ∷ one k.Name ∷ one k.Equal ∷ one k.Name ∷ paired k.CloseParen 2 ∷ one k.Colon ∷ one k.AssertsWord ∷
    one k.Name ∷ []) ≡ gives (node Module 0 12 (cons nil (cons (turn (cons (node TypedFunction 0 12 (mark
    0 (cons nil (cons (leaf as_name 1)
    (cons (node TypedSignature 2 12
    (cons nil (mark 2 (cons
    (node TypedParameters 3 8
    (cons (turn (cons (node MarkedParameter 3 8 (cons (node NamePattern 3 4 (cons (leaf
    as_name 3) nil)) (cons nil (cons (mark 4 (cons (node EntityOfType 5 6 (cons (leaf as_name 5) (cons nil
    nil))) nil)) (cons (mark 6 (cons (node Name 7 8 (cons (leaf as_name 7) nil)) nil)) nil))))) (cons nil
    nil)) nil) (cons nil nil))) (mark 8 (cons (mark 9 (cons (node AssertsResult 10 12 (mark 10 (cons
    (leaf as_name 11) (cons nil nil)))) nil)) nil)))))) (cons (cons nil nil) nil)))))) nil) nil) nil))) 12)
    -- declare function f(a): a is b
    × (read_program lang.Typescript mode.Module (one k.DeclareWord ∷ one k.FunctionWord ∷ one k.Name ∷ paired
    k.OpenParen 5 ∷ one k.Name ∷ paired k.CloseParen 3 ∷ one k.Colon ∷ one k.Name ∷ one k.IsWord ∷ one k.Name ∷ []) ≡
    gives (node Module 0 10
    (cons nil (cons (turn
    (cons (node Declared 0 10
    (mark 0 (cons (node TypedFunction 1 10
    (mark 1 (cons nil (cons (leaf as_name 2) (cons (node TypedSignature 3 10 (cons nil (mark 3
    (cons (node TypedParameters 4 5 (cons (turn (cons (node NamePattern 4 5 (cons (leaf as_name 4) nil))
    (cons nil nil)) nil) (cons nil nil))) (mark 5 (cons (mark 6 (cons (node PredicateResult 7 10 (cons
    (leaf as_name 7) (mark 8 (cons (node EntityOfType 9 10 (cons (leaf as_name 9) (cons nil nil))) nil))))
    nil)) nil)))))) (cons (cons nil nil) nil)))))) nil))) nil) nil) nil))) 10)
    -- x = function f();
    × (read_program lang.Typescript mode.Module (one k.Name ∷ one k.Equal ∷ one k.FunctionWord ∷ one k.Name ∷ paired
    k.OpenParen 5 ∷ paired k.CloseParen 4 ∷ one k.Semicolon ∷ []) ≡ gives (node Module 0 7 (cons nil (cons
    (turn (cons (node ExpressionStatement 0 7 (cons (node Assignment 0 7 (cons (node Name 0
    1 (cons (leaf as_name 0) nil)) (cons (cons (leaf as_kind 1) nil) (cons (node TypedFunction 2 7 (mark 2 (cons
    nil (cons (cons (leaf as_name 3) nil)
    (cons (node TypedSignature 4 6
    (cons nil (mark 4 (cons (node TypedParameters 5 5 (cons nil (cons nil nil))) (mark 5 (cons nil nil))))))
    (cons (cons (mark 6 nil) nil) nil))))))
    nil)))) (cons nil nil))) nil) nil) nil))) 7)
    -- async function f(): a
    × (read_program lang.Typescript mode.Module (one k.AsyncWord ∷ one k.FunctionWord ∷ one k.Name ∷ paired
    k.OpenParen 4 ∷ paired k.CloseParen 3 ∷ one k.Colon ∷ one k.Name ∷ []) ≡ gives (node Module 0 7 (cons nil
    (cons (turn (cons (node TypedAsyncFunction 0 7 (mark 0 (mark 1 (cons nil (cons (leaf as_name 2) (cons (node
    TypedSignature 3 7 (cons nil (mark 3 (cons (node TypedParameters 4 4 (cons nil (cons nil nil))) (mark 4
    (cons (mark 5 (cons (node EntityOfType 6 7 (cons (leaf as_name 6) (cons nil nil))) nil)) nil)))))) (cons
    (cons nil nil) nil))))))) nil) nil) nil))) 7)
unfolding programs_on_keys
functions_read =
    (refl, refl, refl, refl, refl)

-- classes and their members
classes_read :
    -- class A<T> extends B<c> implements D, E { }
    (read_program lang.Typescript mode.Module (one k.ClassWord ∷ one k.Name ∷ one k.Less ∷ one k.Name ∷ joined
    k.Greater ∷ one k.ExtendsWord ∷ one k.Name ∷ one k.Less ∷ one k.Name ∷ joined k.Greater ∷ one k.ImplementsWord ∷
    one k.Name ∷ one k.Comma ∷ one k.Name ∷ paired k.OpenBrace 15 ∷ paired k.CloseBrace 14 ∷ [])
    ≡ gives (node Module 0 16
    (cons nil (cons (turn (cons (node TypedClass 0 16 (mark 0 (cons (leaf as_name 1) (cons (cons
    (node TypeParameters 2 5 (mark 2 (cons nil (cons (leaf as_name 3) (cons nil (cons nil (cons nil
    (cons nil (mark 4 nil))))))))) nil) (cons (mark 5 (cons (node Name 6 7 (cons (leaf as_name 6) nil)) (cons
    (cons (node TypeArguments 7 10 (mark 7 (cons (node EntityOfType 8 9 (cons (leaf as_name 8)
    (cons nil nil))) (cons nil (mark 9 nil))))) nil) nil))) (cons (mark 10 (cons (node EntityOfType 11 12
    (cons (leaf as_name 11) (cons nil nil))) (cons (turn (mark 12 (cons (node EntityOfType 13 14 (cons (leaf
    as_name 13) (cons nil nil))) nil)) nil) nil))) (mark 14 (cons nil (mark 15 nil))))))))) nil) nil) nil))) 16)
    -- abstract class A { abstract a: b; abstract b(): c }
    × (read_program lang.Typescript mode.Module (one k.AbstractWord ∷ one k.ClassWord ∷ one k.Name ∷ paired
    k.OpenBrace 15 ∷ one k.AbstractWord ∷ one k.Name ∷ one k.Colon ∷ one k.Name ∷ one k.Semicolon ∷ one k.AbstractWord
    ∷ one k.Name ∷ paired k.OpenParen 12 ∷ paired k.CloseParen 11 ∷ one k.Colon ∷ one k.Name ∷ paired k.CloseBrace 3 ∷
    []) ≡ gives (node Module 0 16 (cons nil (cons (turn (cons (node AbstractClass 0 16 (mark 0 (mark 1 (cons
    (leaf as_name 2) (cons nil (cons nil (cons nil (mark 3 (cons (turn (cons (node TypedFieldMember 4 9 (cons
    (turn (cons (leaf as_kind 4) nil) nil) (cons (node WordKey 5 6 (cons (leaf as_name 5) nil)) (cons nil
    (cons (mark 6 (cons (node EntityOfType 7 8 (cons (leaf as_name 7) (cons nil nil))) nil)) (cons nil (cons
    (mark 8 nil) nil))))))) nil) (turn (cons (node TypedMethodMember 9 15 (cons (turn (cons (leaf as_kind 9) nil)
    nil) (cons (cons (node WordKey 10 11 (cons (leaf as_name 10) nil))
    (cons nil (cons (node TypedSignature 11 15
    (cons nil (mark 11 (cons (node TypedParameters 12 12 (cons nil (cons nil nil))) (mark 12
    (cons (mark 13 (cons (node EntityOfType 14 15 (cons (leaf as_name 14) (cons nil nil))) nil)) nil))))))
    nil))) (cons (cons nil nil) nil)))) nil) nil)) (mark 15 nil)))))))))) nil) nil) nil))) 16)
    -- class A { private readonly a?: b = c; static d!: e }
    × (read_program lang.Typescript mode.Module (one k.ClassWord ∷ one k.Name ∷ paired k.OpenBrace 17 ∷ one
    k.PrivateWord ∷ one k.ReadonlyWord ∷ one k.Name ∷ one k.Question ∷ one k.Colon ∷ one k.Name ∷ one k.Equal ∷ one
    k.Name ∷ one k.Semicolon ∷ one k.StaticWord ∷ one k.Name ∷ one k.Exclamation ∷ one k.Colon ∷ one k.Name ∷ paired
    k.CloseBrace 2 ∷ []) ≡ gives (node Module 0 18 (cons nil (cons (turn (cons (node TypedClass 0 18
    (mark 0 (cons (leaf as_name 1) (cons nil (cons nil (cons nil (mark 2 (cons (turn (cons (node TypedFieldMember
    3 12 (cons (turn (cons (leaf as_kind 3) nil) (turn (cons (leaf as_kind 4) nil) nil)) (cons (node WordKey
    5 6 (cons (leaf as_name 5) nil)) (cons (cons (leaf as_kind 6) nil) (cons (mark 7 (cons (node EntityOfType
    8 9 (cons (leaf as_name 8) (cons nil nil))) nil)) (cons (mark 9 (cons (node Name 10 11 (cons (leaf
    as_name 10) nil)) nil)) (cons (mark 11 nil) nil))))))) nil) (turn (cons (node TypedFieldMember 12 17 (cons
    (turn (cons (leaf as_kind 12) nil) nil) (cons (node WordKey 13 14 (cons (leaf as_name 13) nil)) (cons
    (cons (leaf as_kind 14) nil) (cons (mark 15 (cons (node EntityOfType 16 17 (cons (leaf as_name 16) (cons
    nil nil))) nil)) (cons nil (cons nil nil))))))) nil) nil)) (mark 17 nil))))))))) nil) nil) nil))) 18)
    -- class A { constructor(public a, readonly b: c) { } }
    × (read_program lang.Typescript mode.Module (one k.ClassWord ∷ one k.Name ∷ paired k.OpenBrace 15 ∷ one
    k.ConstructorWord ∷ paired k.OpenParen 12 ∷ one k.PublicWord ∷ one k.Name ∷ one k.Comma ∷ one k.ReadonlyWord ∷ one
    k.Name ∷ one k.Colon ∷ one k.Name ∷ paired k.CloseParen 4 ∷ paired k.OpenBrace 14 ∷ paired k.CloseBrace 13 ∷
    paired k.CloseBrace 2 ∷ []) ≡ gives (node Module 0 16 (cons nil (cons (turn (cons (node TypedClass 0
    16 (mark 0 (cons (leaf as_name 1)
    (cons nil (cons nil (cons nil
    (mark 2 (cons (turn (cons
    (node TypedMethodMember 3 15
    (cons nil (cons (cons (node WordKey 3 4 (cons (leaf as_name 3) nil)) (cons nil (cons
    (node TypedSignature 4 13 (cons nil (mark 4 (cons (node TypedParameters 5 12 (cons (turn (cons (node
    PropertyParameter 5 7 (cons (turn (cons (leaf as_kind 5) nil) nil) (cons (node NamePattern 6 7 (cons
    (leaf as_name 6) nil)) (cons nil (cons nil (cons nil nil)))))) (cons (mark 7 nil) nil)) (turn (cons (node
    PropertyParameter 8 12 (cons (turn (cons (leaf as_kind 8) nil) nil) (cons (node NamePattern 9 10 (cons
    (leaf as_name 9) nil)) (cons nil (cons (mark 10 (cons (node EntityOfType 11 12 (cons (leaf as_name 11)
    (cons nil nil))) nil)) (cons nil nil)))))) (cons nil nil)) nil)) (cons nil nil))) (mark 12 (cons nil nil))))))
    nil))) (cons (cons (node Block 13 15 (mark 13 (cons nil (mark 14 nil)))) nil) nil)))) nil) nil) (mark 15
    nil))))))))) nil) nil) nil))) 16)
    -- class A { static readonly [k: string]: any; get a(): b; accessor c: d = e }
    × (read_program lang.Typescript mode.Module (one k.ClassWord ∷ one k.Name ∷ paired k.OpenBrace 26 ∷ one
    k.StaticWord ∷ one k.ReadonlyWord ∷ paired k.OpenBracket 9 ∷ one k.Name ∷ one k.Colon ∷ one k.StringWord ∷ paired
    k.CloseBracket 5 ∷ one k.Colon ∷ one k.AnyWord ∷ one k.Semicolon ∷ one k.GetWord ∷ one k.Name ∷ paired k.OpenParen
    16 ∷ paired k.CloseParen 15 ∷ one k.Colon ∷ one k.Name ∷ one k.Semicolon ∷ one k.AccessorWord ∷ one k.Name ∷ one
    k.Colon ∷ one k.Name ∷ one k.Equal ∷ one k.Name ∷ paired k.CloseBrace 2 ∷ []) ≡ gives (node Module 0 27
    (cons nil (cons (turn (cons (node TypedClass 0 27 (mark 0 (cons (leaf as_name 1) (cons nil (cons nil (cons nil
    (mark 2 (cons (turn (cons (node IndexMember 3 13 (cons (turn (cons (leaf as_kind 3) nil) (turn (cons (leaf as_kind
    4) nil) nil)) (mark 5 (cons (leaf as_name 6) (mark 7 (cons (node KeywordType 8 9 (cons (leaf as_kind
    8) nil)) (mark 9 (cons (mark 10 (cons (node KeywordType 11 12 (cons (leaf as_kind 11) nil)) nil))
    (cons (mark 12 nil) nil))))))))) nil) (turn (cons (node TypedAccessorMember 13 20 (cons nil (cons (leaf
    as_kind 13) (cons (cons (node WordKey 14 15 (cons (leaf as_name 14) nil))
    (cons nil (cons (node TypedSignature 15 19
    (cons nil (mark 15 (cons (node TypedParameters 16 16 (cons nil (cons nil nil))) (mark 16
    (cons (mark 17 (cons (node EntityOfType 18 19 (cons (leaf as_name 18) (cons nil nil))) nil)) nil))))))
    nil))) (cons (cons (mark 19 nil) nil) nil))))) nil) (turn (cons (node TypedAccessorField 20 26 (cons nil (mark
    20 (cons (node WordKey 21 22 (cons (leaf as_name 21) nil))
    (cons nil (cons (mark 22 (cons (node EntityOfType 23 24 (cons (leaf as_name 23) (cons nil nil))) nil))
    (cons (mark 24 (cons (node Name 25 26
    (cons (leaf as_name 25) nil)) nil)) (cons nil nil)))))))) nil) nil))) (mark 26 nil))))))))) nil) nil) nil))) 27)
    -- class A { a?<T>(): b; override async *c() { } }
    × (read_program lang.Typescript mode.Module (one k.ClassWord ∷ one k.Name ∷ paired k.OpenBrace 21 ∷ one k.Name ∷
    one k.Question ∷ one k.Less ∷ one k.Name ∷ joined k.Greater ∷ paired k.OpenParen 9 ∷ paired k.CloseParen 8 ∷ one
    k.Colon ∷ one k.Name ∷ one k.Semicolon ∷ one k.OverrideWord ∷ one k.AsyncWord ∷ one k.Star ∷ one k.Name ∷ paired
    k.OpenParen 18 ∷ paired k.CloseParen 17 ∷ paired k.OpenBrace 20 ∷ paired k.CloseBrace 19 ∷ paired k.CloseBrace 2 ∷
    []) ≡ gives (node Module 0 22 (cons nil (cons (turn (cons (node TypedClass 0 22 (mark 0 (cons (leaf
    as_name 1) (cons nil (cons nil (cons nil (mark 2 (cons (turn (cons (node TypedMethodMember 3 13 (cons nil
    (cons (cons (node WordKey 3 4 (cons (leaf as_name 3) nil)) (cons (cons (leaf as_there 4) nil) (cons (node
    TypedSignature 5 12 (cons (cons (node TypeParameters 5 8 (mark 5 (cons nil (cons (leaf as_name
    6) (cons nil (cons nil (cons nil (cons nil (mark 7 nil))))))))) nil) (mark 8 (cons (node TypedParameters 9 9
    (cons nil (cons nil nil))) (mark 9 (cons (mark 10 (cons (node EntityOfType 11 12 (cons (leaf as_name 11)
    (cons nil nil))) nil)) nil)))))) nil))) (cons (cons (mark 12 nil) nil) nil)))) nil)
    (turn (cons (node TypedAsyncMember 13 21
    (cons (turn (cons (leaf as_kind 13) nil) nil) (mark 14 (cons (cons (leaf as_there 15) nil)
    (cons (cons (node WordKey 16 17 (cons (leaf as_name 16) nil)) (cons nil (cons (node TypedSignature 17
    19 (cons nil (mark 17 (cons (node TypedParameters 18 18 (cons nil (cons nil nil))) (mark 18 (cons nil
    nil)))))) nil))) (cons (cons (node Block 19 21 (mark 19 (cons nil (mark 20 nil)))) nil) nil)))))) nil)
    nil)) (mark 21 nil))))))))) nil) nil) nil))) 22)
    -- x = abstract⏎class A { }
    × (read_program lang.Typescript mode.Module (one k.Name ∷ one k.Equal ∷ one k.AbstractWord ∷ line k.ClassWord ∷
    one k.Name ∷ paired k.OpenBrace 6 ∷ paired k.CloseBrace 5 ∷ []) ≡ gives (node Module 0 7 (cons nil (cons
    (turn (cons (node ExpressionStatement 0 7 (cons (node Assignment 0 7 (cons (node Name 0
    1 (cons (leaf as_name 0) nil)) (cons (cons (leaf as_kind 1) nil) (cons (node AbstractClass 2 7 (mark 2 (mark 3
    (cons (cons (leaf as_name 4) nil) (cons nil (cons nil (cons nil (mark 5 (cons nil (mark 6 nil)))))))))) nil))))
    (cons nil nil))) nil) nil) nil))) 7)
    -- class A { get<T>() { } readonly: b; abstract⏎c }
    × (read_program lang.Typescript mode.Module (one k.ClassWord ∷ one k.Name ∷ paired k.OpenBrace 17 ∷ one k.GetWord
    ∷ one k.Less ∷ one k.Name ∷ joined k.Greater ∷ paired k.OpenParen 8 ∷ paired k.CloseParen 7 ∷ paired k.OpenBrace
    10 ∷ paired k.CloseBrace 9 ∷ one k.ReadonlyWord ∷ one k.Colon ∷ one k.Name ∷ one k.Semicolon ∷ one k.AbstractWord
    ∷ line k.Name ∷ paired k.CloseBrace 2 ∷ []) ≡ gives (node Module 0 18 (cons nil (cons (turn (cons (node
    TypedClass 0 18 (mark 0 (cons (leaf as_name 1) (cons nil (cons nil (cons nil (mark 2 (cons (turn (cons (node
    TypedMethodMember 3 11 (cons nil (cons (cons (node WordKey 3 4 (cons (leaf as_name 3) nil)) (cons nil
    (cons (node TypedSignature 4 9 (cons (cons (node TypeParameters 4 7 (mark 4 (cons nil (cons
    (leaf as_name 5) (cons nil (cons nil (cons nil (cons nil (mark 6 nil))))))))) nil)
    (mark 7 (cons (node TypedParameters 8 8 (cons nil (cons nil nil))) (mark 8 (cons nil nil)))))) nil)))
    (cons (cons (node Block 9
    11 (mark 9 (cons nil (mark 10 nil)))) nil) nil)))) nil) (turn (cons (node TypedFieldMember 11 15 (cons nil
    (cons (node WordKey 11 12 (cons (leaf as_name 11) nil))
    (cons nil (cons (mark 12 (cons (node EntityOfType 13 14 (cons (leaf as_name 13) (cons nil nil))) nil))
    (cons nil (cons (mark 14 nil) nil))))))) nil)
    (turn (cons (node TypedFieldMember 15 16 (cons nil (cons (node WordKey 15 16 (cons (leaf as_name 15)
    nil)) (cons nil (cons nil (cons nil (cons nil nil))))))) nil) (turn (cons (node TypedFieldMember 16 17 (cons
    nil (cons (node WordKey 16 17 (cons (leaf as_name 16) nil)) (cons nil (cons nil (cons nil (cons nil
    nil))))))) nil) nil)))) (mark 17 nil))))))))) nil) nil) nil))) 18)
unfolding programs_on_keys
classes_read =
    (refl, refl, refl, refl, refl, refl, refl, refl)

-- interfaces, aliases, enums and namespaces
types_and_spaces_read :
    -- interface A<T> extends B<c>, D { (e): f; readonly g?: h }
    (read_program lang.Typescript mode.Module (one k.InterfaceWord ∷ one k.Name ∷ one k.Less ∷ one k.Name ∷ joined
    k.Greater ∷ one k.ExtendsWord ∷ one k.Name ∷ one k.Less ∷ one k.Name ∷ joined k.Greater ∷ one k.Comma ∷ one k.Name
    ∷ paired k.OpenBrace 24 ∷ paired k.OpenParen 15 ∷ one k.Name ∷ paired k.CloseParen 13 ∷ one k.Colon ∷ one k.Name ∷
    one k.Semicolon ∷ one k.ReadonlyWord ∷ one k.Name ∷ one k.Question ∷ one k.Colon ∷ one k.Name ∷ paired
    k.CloseBrace 12 ∷ []) ≡ gives (node Module 0 25 (cons nil (cons (turn (cons (node InterfaceDeclaration 0 25 (mark 0
    (cons (leaf as_name 1) (cons (cons (node TypeParameters 2 5 (mark 2 (cons nil (cons (leaf as_name 3)
    (cons nil (cons nil (cons nil (cons nil (mark 4 nil))))))))) nil)
    (cons (mark 5 (cons (node Reference 6 10
    (cons (node EntityOfType 6 7 (cons (leaf as_name 6) (cons nil nil))) (cons (node
    TypeArguments 7 10 (mark 7 (cons (node EntityOfType 8 9 (cons (leaf as_name 8) (cons nil
    nil))) (cons nil (mark 9 nil))))) nil))) (cons (turn (mark 10 (cons (node EntityOfType 11 12 (cons (leaf
    as_name 11) (cons nil nil))) nil)) nil) nil))) (mark 12 (cons (turn (cons (node CallSignature 13 19
    (cons nil (mark 13 (cons (node ParametersOfType 14 15 (cons (turn (cons (node NamePatternOfType 14
    15 (cons (leaf as_name 14) nil)) (cons nil nil)) nil) (cons nil nil)))
    (mark 15 (cons (mark 16 (cons (node EntityOfType 17 18 (cons (leaf as_name 17) (cons nil nil))) nil))
    (cons (cons (leaf as_there 18) nil) nil)))))))
    nil) (turn (cons (node ReadonlyProperty 19 24 (mark 19 (cons (node WordKeyOfType 20 21 (cons
    (leaf as_name 20) nil)) (cons (cons (leaf as_there 21) nil) (cons (mark 22 (cons (node EntityOfType 23 24
    (cons (leaf as_name 23) (cons nil nil))) nil)) (cons nil nil)))))) nil) nil)) (mark 24 nil)))))))) nil) nil)
    nil))) 25)
    -- type A<T> = b
    × (read_program lang.Typescript mode.Module (one k.TypeWord ∷ one k.Name ∷ one k.Less ∷ one k.Name ∷ joined
    k.Greater ∷ one k.Equal ∷ one k.Name ∷ []) ≡ gives (node Module 0 7 (cons nil (cons (turn (cons (node
    AliasDeclaration 0 7 (mark 0 (cons (leaf as_name 1) (cons (cons (node TypeParameters 2 5 (mark 2 (cons nil
    (cons (leaf as_name 3) (cons nil (cons nil (cons nil (cons nil (mark 4 nil))))))))) nil) (mark 5 (cons (node
    EntityOfType 6 7 (cons (leaf as_name 6) (cons nil nil))) (cons nil nil))))))) nil) nil) nil))) 7)
    -- const enum A { b, c = 1, "d" = 2, }
    × (read_program lang.Typescript mode.Module (one k.ConstWord ∷ one k.EnumWord ∷ one k.Name ∷ paired k.OpenBrace 14
    ∷ one k.Name ∷ one k.Comma ∷ one k.Name ∷ one k.Equal ∷ one k.Number ∷ one k.Comma ∷ one k.Str ∷ one k.Equal ∷ one
    k.Number ∷ one k.Comma ∷ paired k.CloseBrace 3 ∷ []) ≡ gives (node Module 0 15 (cons nil (cons (turn
    (cons (node EnumDeclaration 0 15
    (cons (cons (leaf as_there 0) nil) (mark 1 (cons (leaf as_name 2) (mark 3 (cons (turn (cons
    (node WordKey 4 5 (cons (leaf as_name 4) nil)) (cons nil (cons (mark 5 nil) nil))) (turn (cons (node
    WordKey 6 7 (cons (leaf as_name 6) nil)) (cons (mark 7 (cons (node Number 8 9 (cons (leaf as_raw
    8) nil)) nil)) (cons (mark 9 nil) nil))) (turn (cons (node StrKey 10 11 (cons (leaf as_str 10) nil))
    (cons (mark 11 (cons (node Number 12 13 (cons (leaf as_raw 12) nil)) nil)) (cons (mark 13 nil) nil)))
    nil))) (mark 14 nil))))))) nil) nil) nil))) 15)
    -- namespace a.b { export = c }
    × (read_program lang.Typescript mode.Module (one k.NamespaceWord ∷ one k.Name ∷ one k.Dot ∷ one k.Name ∷ paired
    k.OpenBrace 8 ∷ one k.ExportWord ∷ one k.Equal ∷ one k.Name ∷ paired k.CloseBrace 4 ∷ [])
    ≡ gives (node Module 0 9
    (cons nil (cons (turn (cons (node NamespaceDeclaration 0 9 (cons (leaf as_kind 0) (cons (node Entity 1 4
    (cons (leaf as_name 1) (cons (turn (mark 2 (cons (leaf as_name 3) nil)) nil) nil))) (mark 4 (cons (turn (cons
    (node ExportAssignment 5 8 (mark 5 (mark 6 (cons (node Name 7 8 (cons (leaf as_name 7) nil)) (cons nil
    nil))))) nil) nil) (mark 8 nil)))))) nil) nil) nil))) 9)
    -- declare module "a"⏎{ }
    × (read_program lang.Typescript mode.Module (one k.DeclareWord ∷ one k.ModuleWord ∷ one k.Str ∷ line_paired
    k.OpenBrace 4 ∷ paired k.CloseBrace 3 ∷ []) ≡ gives (node Module 0 5 (cons nil (cons (turn (cons (node
    Declared 0 5 (mark 0 (cons (node ModuleDeclaration 1 5 (mark 1 (cons (leaf as_str 2) (cons (mark 3 (cons nil (mark 4
    nil))) nil)))) nil))) nil) nil) nil))) 5)
    -- declare module "a"
    × (read_program lang.Typescript mode.Module (one k.DeclareWord ∷ one k.ModuleWord ∷ one k.Str ∷ []) ≡ gives (node
    Module 0 3 (cons nil (cons (turn (cons (node Declared 0 3 (mark 0 (cons (node ModuleDeclaration 1 3 (mark 1
    (cons (leaf as_str 2) (cons (cons nil nil) nil)))) nil))) nil) nil) nil))) 3)
    -- declare global { }
    × (read_program lang.Typescript mode.Module (one k.DeclareWord ∷ one k.GlobalWord ∷ paired k.OpenBrace 3 ∷ paired
    k.CloseBrace 2 ∷ []) ≡ gives (node Module 0 4 (cons nil (cons (turn (cons (node Declared 0 4 (mark 0
    (cons (node GlobalDeclaration 1 4 (mark 1 (mark 2 (cons nil (mark 3 nil))))) nil))) nil) nil) nil))) 4)
    -- declare const enum A { }
    × (read_program lang.Typescript mode.Module (one k.DeclareWord ∷ one k.ConstWord ∷ one k.EnumWord ∷ one k.Name ∷
    paired k.OpenBrace 5 ∷ paired k.CloseBrace 4 ∷ []) ≡ gives (node Module 0 6 (cons nil (cons (turn (cons
    (node Declared 0 6 (mark 0
    (cons (node EnumDeclaration 1 6 (cons (cons (leaf as_there 1) nil) (mark 2 (cons (leaf as_name 3)
    (mark 4 (cons nil (mark 5 nil))))))) nil))) nil) nil) nil))) 6)
    -- declare abstract class A { }
    × (read_program lang.Typescript mode.Module (one k.DeclareWord ∷ one k.AbstractWord ∷ one k.ClassWord ∷ one k.Name
    ∷ paired k.OpenBrace 5 ∷ paired k.CloseBrace 4 ∷ []) ≡ gives (node Module 0 6 (cons nil (cons (turn (cons
    (node Declared 0 6 (mark 0 (cons (node AbstractClass 1 6 (mark 1 (mark 2 (cons (leaf as_name 3) (cons nil (cons
    nil (cons nil (mark 4 (cons nil (mark 5 nil)))))))))) nil))) nil) nil) nil))) 6)
    -- type⏎A = b
    × (read_program lang.Typescript mode.Module (one k.TypeWord ∷ line k.Name ∷ one k.Equal ∷ one k.Name ∷ []) ≡ gives
    (node Module 0 4 (cons nil
    (cons (turn (cons (node ExpressionStatement 0 1
    (cons (node Name 0 1 (cons (leaf as_name 0) nil)) (cons nil nil))) nil)
    (turn (cons (node ExpressionStatement 1 4
    (cons (node Assignment 1 4 (cons (node Name 1 2 (cons (leaf as_name 1) nil)) (cons (cons (leaf
    as_kind 2) nil) (cons (node Name 3 4 (cons (leaf as_name 3) nil)) nil)))) (cons nil nil))) nil) nil))
    nil))) 4)
unfolding programs_on_keys
types_and_spaces_read =
    (refl, refl, refl, refl, refl, refl, refl, refl, refl, refl)
