-- Expressions of TypeScript, statements and items, and their trees: each is what the reader of the table answers, by
-- computing it. A line end is written ⏎.
use Rattle.std.specs.Prelude.{[], ◌∷◌}
use Rattle.std.proofs.Common.{◌≡◌, refl}
use Rattle.es_token.specs.declared.token.TokenKind.TheVariants as k
use Rattle.grammar_theory.specs.declared.error.Lang.TheVariants as lang
use Rattle.grammar_theory.specs.declared.error.Mode.TheVariants as mode
use Rattle.grammar_theory.specs.Productions.{as_kind, as_name, as_raw, as_str, as_there}
use Rattle.grammar_theory.specs.Plain.{node, leaf, nil, cons, mark, turn, via}
use Rattle.grammar_theory.specs.Reader.{gives}
use Rattle.es_grammar.specs.declared.rows.NodeKind.TheVariants.{AbstractClass, AliasDeclaration, Arguments, ArrayLiteral, Assignment, Binary, Block, Chain, Conditional, Declared, Entity, EntityOfType, EnumDeclaration, ExportAssignment, ExportDeclaration, ExportDefaultClass, ExportDefaultInterface, ExportedRequireImport, ExpressionStatement, ForEachStatement, FromImport, ImportedName, InterfaceDeclaration, LabelledStatement, MarkedParameter, MemberPost, Module, Name, NameArrow, NamePattern, NamedImports, NamespaceDeclaration, NonNullPost, Parenthesized, ParenthesizedType, Reference, Target, Template, TemplatePost, ThisParameter, TypeArguments, TypeParameters, TypedAsyncParenthesizedArrow, TypedBinary, TypedCallPost, TypedNew, TypedOptionalPost, TypedParameters, TypedParenthesizedArrow, TypedTemplatePost, UnionType, UpdatePostfix, Yield}
use Rattle.es_grammar.specs.types.TypeReader.{joined, line, one, paired}
use Rattle.es_grammar.specs.ProgramReader.{read_program}
use Rattle.es_grammar.proofs.OnKeys.{programs_on_keys}

-- `as`, `satisfies`, `!`
assertions_read :
    -- a as b as c
    (read_program lang.Typescript mode.Module (one k.Name ∷ one k.AsWord ∷ one k.Name ∷ one k.AsWord ∷ one k.Name ∷
    []) ≡ gives (node Module 0 5 (cons nil (cons (turn (cons (node ExpressionStatement 0 5 (cons
    (node TypedBinary 0 5 (cons (node TypedBinary 0 3 (cons (node Name 0 1 (cons (leaf as_name 0)
    nil)) (cons (cons (leaf as_kind 1) (cons (cons (node EntityOfType 2 3 (cons (leaf as_name 2) (cons nil
    nil))) nil) nil)) nil))) (cons (cons (leaf as_kind 3) (cons (cons (node EntityOfType 4 5 (cons (leaf
    as_name 4) (cons nil nil))) nil) nil)) nil))) (cons nil nil))) nil) nil) nil))) 5)
    -- a as b + c
    × (read_program lang.Typescript mode.Module (one k.Name ∷ one k.AsWord ∷ one k.Name ∷ one k.Plus ∷ one k.Name ∷
    []) ≡ gives (node Module 0 5 (cons nil (cons (turn (cons (node ExpressionStatement 0 5 (cons
    (node TypedBinary 0 5 (cons (node TypedBinary 0 3 (cons (node Name 0 1 (cons (leaf as_name 0)
    nil)) (cons (cons (leaf as_kind 1) (cons (cons (node EntityOfType 2 3 (cons (leaf as_name 2) (cons nil
    nil))) nil) nil)) nil))) (cons (cons (cons (leaf as_kind 3) nil) (cons (node Name 4 5 (cons (leaf
    as_name 4) nil)) nil)) nil))) (cons nil nil))) nil) nil) nil))) 5)
    -- a as b⏎`c`
    × (read_program lang.Typescript mode.Module (one k.Name ∷ one k.AsWord ∷ one k.Name ∷ line k.TemplateWhole ∷ [])
    ≡ gives (node Module 0 4 (cons nil (cons (turn (cons (node ExpressionStatement 0 3 (cons (node TypedBinary
    0 3 (cons (node Name 0 1 (cons (leaf as_name 0) nil)) (cons (cons (leaf as_kind 1) (cons (cons (node
    EntityOfType 2 3 (cons (leaf as_name 2) (cons nil nil))) nil) nil)) nil))) (cons nil nil))) nil)
    (turn (cons (node ExpressionStatement 3 4 (cons (node Template 3 4 (cons (leaf as_raw 3) nil)) (cons nil nil)))
    nil) nil)) nil))) 4)
    -- a as const
    × (read_program lang.Typescript mode.Module (one k.Name ∷ one k.AsWord ∷ one k.ConstWord ∷ []) ≡ gives (node
    Module 0 3 (cons nil (cons (turn (cons (node ExpressionStatement 0 3 (cons (node TypedBinary
    0 3 (cons (node Name 0 1 (cons (leaf as_name 0) nil)) (cons (cons (leaf as_kind 1) (cons (cons (leaf
    as_there 2) nil) nil)) nil))) (cons nil nil))) nil) nil) nil))) 3)
    -- a + b satisfies c
    × (read_program lang.Typescript mode.Module (one k.Name ∷ one k.Plus ∷ one k.Name ∷ one k.SatisfiesWord ∷ one
    k.Name ∷ []) ≡ gives (node Module 0 5 (cons nil (cons (turn (cons (node ExpressionStatement 0 5
    (cons (node TypedBinary 0 5 (cons (node Binary 0 3 (cons (node Name 0 1 (cons (leaf as_name
    0) nil)) (cons (leaf as_kind 1) (cons (node Name 2 3 (cons (leaf as_name 2) nil)) nil)))) (cons (cons
    (leaf as_kind 3) (cons (cons (node EntityOfType 4 5 (cons (leaf as_name 4) (cons nil nil))) nil) nil))
    nil))) (cons nil nil))) nil) nil) nil))) 5)
    -- a as b = c
    × (read_program lang.Typescript mode.Module (one k.Name ∷ one k.AsWord ∷ one k.Name ∷ one k.Equal ∷ one k.Name ∷
    []) ≡ gives (node Module 0 5 (cons nil (cons (turn (cons (node ExpressionStatement 0 5 (cons
    (node Assignment 0 5 (cons (node TypedBinary 0 3 (cons (node Name 0 1 (cons (leaf as_name 0)
    nil)) (cons (cons (leaf as_kind 1) (cons (cons (node EntityOfType 2 3 (cons (leaf as_name 2) (cons nil
    nil))) nil) nil)) nil))) (cons (cons (leaf as_kind 3) nil) (cons (node Name 4 5 (cons (leaf as_name 4)
    nil)) nil)))) (cons nil nil))) nil) nil) nil))) 5)
    -- (a as b)! = c
    × (read_program lang.Typescript mode.Module (paired k.OpenParen 4 ∷ one k.Name ∷ one k.AsWord ∷ one k.Name ∷
    paired k.CloseParen 0 ∷ one k.Exclamation ∷ one k.Equal ∷ one k.Name ∷ []) ≡ gives (node Module 0 8 (cons
    nil (cons (turn (cons (node ExpressionStatement 0 8 (cons (node Assignment 0 8 (cons (node
    Chain 0 6 (cons (node Parenthesized 0 5 (mark 0 (cons (node TypedBinary 1 4 (cons (node
    Name 1 2 (cons (leaf as_name 1) nil)) (cons (cons (leaf as_kind 2) (cons (cons (node EntityOfType
    3 4 (cons (leaf as_name 3) (cons nil nil))) nil) nil)) nil))) (mark 4 nil)))) (cons (node NonNullPost 5 6 (mark 5
    nil)) (cons nil nil)))) (cons (cons (leaf as_kind 6) nil) (cons (node Name 7 8 (cons (leaf as_name 7)
    nil)) nil)))) (cons nil nil))) nil) nil) nil))) 8)
    -- a!.b++
    × (read_program lang.Typescript mode.Module (one k.Name ∷ one k.Exclamation ∷ one k.Dot ∷ one k.Name ∷ one
    k.PlusPlus ∷ []) ≡ gives (node Module 0 5 (cons nil (cons (turn (cons (node ExpressionStatement
    0 5 (cons (node UpdatePostfix 0 5 (cons (node Chain 0 4 (cons (node Name 0 1 (cons
    (leaf as_name 0) nil)) (cons (node NonNullPost 1 2 (mark 1 nil)) (cons (turn (cons (node MemberPost 2 4
    (mark 2 (cons (leaf as_name 3) nil))) nil) nil) nil)))) (cons (leaf as_kind 4) nil))) (cons nil nil))) nil) nil)
    nil))) 5)
    -- a⏎as
    × (read_program lang.Typescript mode.Module (one k.Name ∷ line k.AsWord ∷ []) ≡ gives (node Module 0 2
    (cons nil (cons (turn (cons (node ExpressionStatement 0 1 (cons (node Name 0 1 (cons (leaf
    as_name 0) nil)) (cons nil nil))) nil)
    (turn (cons (node ExpressionStatement 1 2 (cons (node Name 1 2 (cons (leaf as_name 1) nil)) (cons nil nil)))
    nil) nil)) nil))) 2)
    -- for (a as b of c) d
    × (read_program lang.Typescript mode.Module (one k.ForWord ∷ paired k.OpenParen 7 ∷ one k.Name ∷ one k.AsWord ∷
    one k.Name ∷ one k.OfWord ∷ one k.Name ∷ paired k.CloseParen 1 ∷ one k.Name ∷ []) ≡ gives (node Module 0
    9 (cons nil (cons (turn (cons (node ForEachStatement 0 9 (mark 0 (mark 1 (cons (via Target (node
    TypedBinary 2 5 (cons (node Name 2 3 (cons (leaf as_name 2) nil)) (cons (cons (leaf as_kind 3) (cons
    (cons (node EntityOfType 4 5 (cons (leaf as_name 4) (cons nil nil))) nil) nil)) nil)))) (cons (cons (leaf
    as_kind 5) (cons (node Name 6 7 (cons (leaf as_name 6) nil)) nil))
    (mark 7 (cons (node ExpressionStatement 8 9 (cons (node Name 8 9 (cons (leaf as_name 8) nil)) (cons nil nil)))
    nil)))))))
    nil) nil) nil))) 9)
unfolding programs_on_keys
assertions_read =
    (refl, refl, refl, refl, refl, refl, refl, refl, refl, refl)

-- type arguments
arguments_read :
    -- f<a>(b)
    (read_program lang.Typescript mode.Module (one k.Name ∷ one k.Less ∷ one k.Name ∷ joined k.Greater ∷ paired
    k.OpenParen 6 ∷ one k.Name ∷ paired k.CloseParen 4 ∷ []) ≡ gives (node Module 0 7 (cons nil (cons (turn
    (cons (node ExpressionStatement 0 7 (cons (node Chain 0 7 (cons (node Name 0 1 (cons
    (leaf as_name 0) nil)) (cons (node TypedCallPost 1 7 (cons (cons (node TypeArguments 1 4 (mark 1
    (cons (node EntityOfType 2 3 (cons (leaf as_name 2) (cons nil nil))) (cons nil (mark 3 nil))))) nil) (cons
    (node Arguments 4 7 (mark 4 (cons (turn (cons nil (cons (node Name 5 6 (cons (leaf as_name 5)
    nil)) (cons nil nil))) nil) (mark 6 nil)))) nil))) (cons nil nil)))) (cons nil nil))) nil) nil) nil))) 7)
    -- f<a>`b`
    × (read_program lang.Typescript mode.Module (one k.Name ∷ one k.Less ∷ one k.Name ∷ joined k.Greater ∷ one
    k.TemplateWhole ∷ [])
    ≡ gives (node Module 0 5
    (cons nil (cons (turn
    (cons (node ExpressionStatement 0 5
    (cons (node Chain 0 5 (cons (node Name 0 1 (cons (leaf as_name 0) nil))
    (cons (node TypedTemplatePost 1 5
    (cons (cons (node TypeArguments 1 4
    (mark 1 (cons (node EntityOfType 2 3 (cons (leaf as_name 2) (cons nil nil))) (cons nil (mark 3 nil)))))
    nil) (cons (node Template 4 5 (cons (leaf as_raw 4) nil)) nil))) (cons nil nil)))) (cons nil nil)))
    nil) nil) nil))) 5)
    -- a<b<c>>(d)
    × (read_program lang.Typescript mode.Module (one k.Name ∷ one k.Less ∷ one k.Name ∷ one k.Less ∷ one k.Name ∷
    joined k.Greater ∷ joined k.Greater ∷ paired k.OpenParen 9 ∷ one k.Name ∷ paired k.CloseParen 7 ∷ []) ≡ gives
    (node Module 0 10 (cons nil
    (cons (turn (cons (node ExpressionStatement 0 10
    (cons (node Chain 0 10
    (cons (node Name 0 1 (cons (leaf as_name 0) nil)) (cons (node TypedCallPost 1 10 (cons
    (cons (node TypeArguments 1 7
    (mark 1 (cons (node Reference 2 6
    (cons (node EntityOfType 2 3 (cons (leaf as_name 2) (cons nil nil))) (cons (node TypeArguments 3 6 (mark 3
    (cons (node EntityOfType 4 5 (cons (leaf as_name 4) (cons nil nil))) (cons nil (mark 5 nil))))) nil)))
    (cons nil (mark 6 nil))))) nil) (cons (node Arguments 7 10 (mark 7 (cons (turn (cons nil (cons (node
    Name 8 9 (cons (leaf as_name 8) nil)) (cons nil nil))) nil) (mark 9 nil)))) nil))) (cons nil nil))))
    (cons nil nil))) nil) nil) nil))) 10)
    -- f<a>⏎b
    × (read_program lang.Typescript mode.Module (one k.Name ∷ one k.Less ∷ one k.Name ∷ joined k.Greater ∷ line k.Name
    ∷ []) ≡ gives (node Module 0 5 (cons nil (cons (turn (cons (node ExpressionStatement 0 5 (cons
    (node TypedBinary 0 5 (cons (node TypedBinary 0 3 (cons (node Name 0 1 (cons (leaf as_name 0)
    nil)) (cons (cons (cons (leaf as_kind 1) nil) (cons (node Name 2 3 (cons (leaf as_name 2) nil)) nil))
    nil))) (cons (cons (cons (leaf as_kind 3) (cons nil nil)) (cons (node Name 4 5 (cons (leaf as_name 4)
    nil)) nil)) nil))) (cons nil nil))) nil) nil) nil))) 5)
    -- new A<b>
    × (read_program lang.Typescript mode.Module (one k.NewWord ∷ one k.Name ∷ one k.Less ∷ one k.Name ∷ joined
    k.Greater ∷ []) ≡ gives (node Module 0 5
    (cons nil (cons (turn (cons (node ExpressionStatement 0 5 (cons (node TypedNew 0 5 (mark 0 (cons
    (node Name 1 2 (cons (leaf as_name 1) nil)) (cons (cons (node TypeArguments 2 5 (mark 2
    (cons (node EntityOfType 3 4 (cons (leaf as_name 3) (cons nil nil))) (cons nil (mark 4 nil))))) nil) (cons
    nil nil))))) (cons nil nil))) nil) nil) nil))) 5)
    -- new A<b>(c)
    × (read_program lang.Typescript mode.Module (one k.NewWord ∷ one k.Name ∷ one k.Less ∷ one k.Name ∷ joined
    k.Greater ∷ paired k.OpenParen 7 ∷ one k.Name ∷ paired k.CloseParen 5 ∷ []) ≡ gives (node Module 0 8
    (cons nil (cons (turn (cons (node ExpressionStatement 0 8 (cons (node TypedNew 0 8 (mark 0 (cons
    (node Name 1 2 (cons (leaf as_name 1) nil)) (cons (cons (node TypeArguments 2 5 (mark 2
    (cons (node EntityOfType 3 4 (cons (leaf as_name 3) (cons nil nil))) (cons nil (mark 4 nil))))) nil) (cons
    (cons (node Arguments 5 8 (mark 5 (cons (turn (cons nil (cons (node Name 6 7 (cons (leaf as_name
    6) nil)) (cons nil nil))) nil) (mark 7 nil)))) nil) nil))))) (cons nil nil))) nil) nil) nil))) 8)
    -- new A<b>`c`
    × (read_program lang.Typescript mode.Module (one k.NewWord ∷ one k.Name ∷ one k.Less ∷ one k.Name ∷ joined
    k.Greater ∷ one k.TemplateWhole ∷ [])
    ≡ gives (node Module 0 6
    (cons nil (cons (turn
    (cons (node ExpressionStatement 0 6
    (cons (node Chain 0 6
    (cons (node TypedNew 0 5
    (mark 0 (cons (node Name 1 2 (cons (leaf as_name 1) nil))
    (cons (cons (node TypeArguments 2 5 (mark 2 (cons (node
    EntityOfType 3 4 (cons (leaf as_name 3) (cons nil nil))) (cons nil (mark 4 nil))))) nil) (cons nil
    nil))))) (cons (node TemplatePost 5 6 (cons (node Template 5 6 (cons (leaf as_raw 5) nil)) nil))
    (cons nil nil)))) (cons nil nil))) nil) nil) nil))) 6)
    -- a?.<b>(c)
    × (read_program lang.Typescript mode.Module (one k.Name ∷ one k.QuestionDot ∷ one k.Less ∷ one k.Name ∷ joined
    k.Greater ∷ paired k.OpenParen 7 ∷ one k.Name ∷ paired k.CloseParen 5 ∷ []) ≡ gives (node Module 0 8
    (cons nil (cons (turn (cons (node ExpressionStatement 0 8 (cons (node Chain 0 8 (cons (node
    Name 0 1 (cons (leaf as_name 0) nil)) (cons (node TypedOptionalPost 1 8 (mark 1 (cons (cons (cons
    (cons (node TypeArguments 2 5 (mark 2 (cons (node EntityOfType 3 4 (cons (leaf as_name 3)
    (cons nil nil))) (cons nil (mark 4 nil))))) nil) (cons (node Arguments 5 8 (mark 5 (cons (turn (cons nil
    (cons (node Name 6 7 (cons (leaf as_name 6) nil)) (cons nil nil))) nil) (mark 7 nil)))) nil)) nil) nil)))
    (cons nil nil)))) (cons nil nil))) nil) nil) nil))) 8)
    -- a < b || c > (d)
    × (read_program lang.Typescript mode.Module (one k.Name ∷ one k.Less ∷ one k.Name ∷ one k.BarBar ∷ one k.Name ∷
    one k.Greater ∷ paired k.OpenParen 8 ∷ one k.Name ∷ paired k.CloseParen 6 ∷ []) ≡ gives (node Module 0 9
    (cons nil (cons (turn (cons (node ExpressionStatement 0 9 (cons (node Binary 0 9 (cons (node
    TypedBinary 0 3 (cons (node Name 0 1 (cons (leaf as_name 0) nil)) (cons (cons (cons (leaf as_kind 1)
    nil) (cons (node Name 2 3 (cons (leaf as_name 2) nil)) nil)) nil))) (cons (leaf as_kind 3) (cons (node
    TypedBinary 4 9 (cons (node Name 4 5 (cons (leaf as_name 4) nil)) (cons (cons (cons (leaf as_kind 5)
    (cons nil nil)) (cons (node Parenthesized 6 9 (mark 6 (cons (node Name 7 8 (cons (leaf as_name
    7) nil)) (mark 8 nil)))) nil)) nil))) nil)))) (cons nil nil))) nil) nil) nil))) 9)
    -- a<b>>(c)
    × (read_program lang.Typescript mode.Module (one k.Name ∷ one k.Less ∷ one k.Name ∷ joined k.Greater ∷ joined
    k.Greater ∷ paired k.OpenParen 7 ∷ one k.Name ∷ paired k.CloseParen 5 ∷ []) ≡ gives (node Module 0 8
    (cons nil (cons (turn (cons (node ExpressionStatement 0 8 (cons (node TypedBinary 0 8 (cons (node
    Name 0 1 (cons (leaf as_name 0) nil)) (cons (cons (cons (leaf as_kind 1) nil) (cons (node Binary
    2 8 (cons (node Name 2 3 (cons (leaf as_name 2) nil)) (cons (cons (leaf as_kind 3) (cons (leaf as_there
    4) (cons nil nil))) (cons (node Parenthesized 5 8 (mark 5 (cons (node Name 6 7 (cons (leaf
    as_name 6) nil)) (mark 7 nil)))) nil)))) nil)) nil))) (cons nil nil))) nil) nil) nil))) 8)
unfolding programs_on_keys
arguments_read =
    (refl, refl, refl, refl, refl, refl, refl, refl, refl, refl)

-- arrows
arrows_read :
    -- (a: b, c?): d => e
    (read_program lang.Typescript mode.Module (paired k.OpenParen 7 ∷ one k.Name ∷ one k.Colon ∷ one k.Name ∷ one
    k.Comma ∷ one k.Name ∷ one k.Question ∷ paired k.CloseParen 0 ∷ one k.Colon ∷ one k.Name ∷ one k.Arrow ∷ one
    k.Name ∷ []) ≡ gives (node Module 0 12 (cons nil (cons (turn (cons (node ExpressionStatement 0
    12 (cons (node TypedParenthesizedArrow 0 12 (cons nil (mark 0 (cons (node TypedParameters 1 7 (cons (turn
    (cons (node MarkedParameter 1 4 (cons (node NamePattern 1 2 (cons (leaf as_name 1) nil)) (cons nil (cons
    (mark 2 (cons (node EntityOfType 3 4 (cons (leaf as_name 3) (cons nil nil))) nil)) (cons nil nil)))))
    (cons (mark 4 nil) nil)) (turn (cons (node MarkedParameter 5 7 (cons (node NamePattern 5 6 (cons (leaf
    as_name 5) nil)) (cons (cons (leaf as_there 6) nil) (cons nil (cons nil nil))))) (cons nil nil)) nil)) (cons nil
    nil))) (mark 7 (cons (mark 8 (cons (node EntityOfType 9 10 (cons (leaf as_name 9) (cons nil nil))) nil))
    (mark 10 (cons (cons (node Name 11 12 (cons (leaf as_name 11) nil)) nil) nil)))))))) (cons nil nil)))
    nil) nil) nil))) 12)
    -- <T,>(a) => a
    × (read_program lang.Typescript mode.Module (one k.Less ∷ one k.Name ∷ one k.Comma ∷ joined k.Greater ∷ paired
    k.OpenParen 6 ∷ one k.Name ∷ paired k.CloseParen 4 ∷ one k.Arrow ∷ one k.Name ∷ []) ≡ gives (node Module
    0 9 (cons nil (cons (turn (cons (node ExpressionStatement 0 9 (cons (node TypedParenthesizedArrow 0 9
    (cons (cons (node TypeParameters 0 4 (mark 0 (cons nil (cons (leaf as_name 1) (cons nil (cons nil
    (cons (mark 2 nil) (cons nil (mark 3 nil))))))))) nil) (mark 4 (cons (node TypedParameters 5 6 (cons (turn
    (cons (node NamePattern 5 6 (cons (leaf as_name 5) nil)) (cons nil nil)) nil) (cons nil nil))) (mark 6
    (cons nil (mark 7 (cons (cons (node Name 8 9 (cons (leaf as_name 8) nil)) nil) nil)))))))) (cons nil
    nil))) nil) nil) nil))) 9)
    -- async <T>(a: T): b => c
    × (read_program lang.Typescript mode.Module (one k.AsyncWord ∷ one k.Less ∷ one k.Name ∷ joined k.Greater ∷ paired
    k.OpenParen 8 ∷ one k.Name ∷ one k.Colon ∷ one k.Name ∷ paired k.CloseParen 4 ∷ one k.Colon ∷ one k.Name ∷ one
    k.Arrow ∷ one k.Name ∷ [])
    ≡ gives (node Module 0 13
    (cons nil (cons (turn
    (cons (node ExpressionStatement 0 13
    (cons (node TypedAsyncParenthesizedArrow 0 13
    (mark 0 (cons (cons (node TypeParameters 1 4
    (mark 1 (cons nil (cons (leaf as_name 2) (cons nil (cons nil (cons nil (cons nil (mark 3
    nil))))))))) nil) (mark 4 (cons (node TypedParameters 5 8 (cons (turn (cons (node MarkedParameter 5 8 (cons
    (node NamePattern 5 6 (cons (leaf as_name 5) nil))
    (cons nil (cons (mark 6 (cons (node EntityOfType 7 8 (cons (leaf as_name 7) (cons nil nil))) nil))
    (cons nil nil))))) (cons nil nil)) nil) (cons nil
    nil))) (mark 8 (cons (mark 9 (cons (node EntityOfType 10 11 (cons (leaf as_name 10) (cons nil nil))) nil))
    (mark 11 (cons (cons (node Name 12 13 (cons (leaf as_name 12) nil)) nil) nil))))))))) (cons nil nil)))
    nil) nil) nil))) 13)
    -- async<T>(a)
    × (read_program lang.Typescript mode.Module (one k.AsyncWord ∷ one k.Less ∷ one k.Name ∷ joined k.Greater ∷ paired
    k.OpenParen 6 ∷ one k.Name ∷ paired k.CloseParen 4 ∷ []) ≡ gives (node Module 0 7 (cons nil (cons (turn
    (cons (node ExpressionStatement 0 7 (cons (node Chain 0 7 (cons (node Name 0 1 (cons
    (leaf as_name 0) nil)) (cons (node TypedCallPost 1 7 (cons (cons (node TypeArguments 1 4 (mark 1
    (cons (node EntityOfType 2 3 (cons (leaf as_name 2) (cons nil nil))) (cons nil (mark 3 nil))))) nil) (cons
    (node Arguments 4 7 (mark 4 (cons (turn (cons nil (cons (node Name 5 6 (cons (leaf as_name 5)
    nil)) (cons nil nil))) nil) (mark 6 nil)))) nil))) (cons nil nil)))) (cons nil nil))) nil) nil) nil))) 7)
    -- a ? (b) : c => d
    × (read_program lang.Typescript mode.Module (one k.Name ∷ one k.Question ∷ paired k.OpenParen 4 ∷ one k.Name ∷
    paired k.CloseParen 2 ∷ one k.Colon ∷ one k.Name ∷ one k.Arrow ∷ one k.Name ∷ []) ≡ gives (node Module 0
    9 (cons nil (cons (turn (cons (node ExpressionStatement 0 9 (cons (node Conditional 0 9 (cons
    (node Name 0 1 (cons (leaf as_name 0) nil)) (mark 1 (cons (node Parenthesized 2 5 (mark 2 (cons
    (node Name 3 4 (cons (leaf as_name 3) nil)) (mark 4 nil)))) (mark 5 (cons (node NameArrow 6 9
    (cons (leaf as_name 6) (mark 7 (cons (cons (node Name 8 9 (cons (leaf as_name 8) nil)) nil) nil))))
    nil)))))) (cons nil nil))) nil) nil) nil))) 9)
    -- [(a): b => c]
    × (read_program lang.Typescript mode.Module (paired k.OpenBracket 8 ∷ paired k.OpenParen 3 ∷ one k.Name ∷ paired
    k.CloseParen 1 ∷ one k.Colon ∷ one k.Name ∷ one k.Arrow ∷ one k.Name ∷ paired k.CloseBracket 0 ∷ []) ≡ gives (node
    Module 0 9 (cons nil
    (cons (turn (cons (node ExpressionStatement 0 9
    (cons (node ArrayLiteral 0 9
    (mark 0 (cons (turn (cons (cons (node TypedParenthesizedArrow 1 8 (cons nil (mark 1 (cons
    (node TypedParameters 2 3 (cons (turn (cons (node NamePattern 2 3 (cons (leaf as_name 2) nil)) (cons
    nil nil)) nil) (cons nil nil))) (mark 3 (cons (mark 4 (cons (node EntityOfType 5 6 (cons (leaf as_name 5)
    (cons nil nil))) nil)) (mark 6 (cons (cons (node Name 7 8 (cons (leaf as_name 7) nil)) nil) nil))))))))
    (cons nil nil)) nil) nil) (mark 8 nil)))) (cons nil nil))) nil) nil) nil))) 9)
    -- { a: (b): c => d }
    × (read_program lang.Typescript mode.Module (paired k.OpenBrace 10 ∷ one k.Name ∷ one k.Colon ∷ paired k.OpenParen
    5 ∷ one k.Name ∷ paired k.CloseParen 3 ∷ one k.Colon ∷ one k.Name ∷ one k.Arrow ∷ one k.Name ∷ paired k.CloseBrace
    0 ∷ []) ≡ gives (node Module 0 11 (cons nil (cons (turn (cons (node Block 0 11 (mark 0 (cons
    (turn (cons (node LabelledStatement 1 10
    (cons (leaf as_name 1)
    (mark 2 (cons (node ExpressionStatement 3 10
    (cons (node TypedParenthesizedArrow 3 10
    (cons nil (mark 3 (cons
    (node TypedParameters 4 5
    (cons (turn (cons (node NamePattern 4 5 (cons (leaf as_name 4) nil)) (cons nil nil)) nil)
    (cons nil nil))) (mark 5 (cons (mark 6 (cons (node EntityOfType 7 8 (cons (leaf as_name 7) (cons nil
    nil))) nil)) (mark 8 (cons (cons (node Name 9 10 (cons (leaf as_name 9) nil)) nil) nil)))))))) (cons nil
    nil))) nil)))) nil) nil) (mark 10 nil)))) nil) nil) nil))) 11)
    -- (): (a | b) => c
    × (read_program lang.Typescript mode.Module (paired k.OpenParen 1 ∷ paired k.CloseParen 0 ∷ one k.Colon ∷ paired
    k.OpenParen 7 ∷ one k.Name ∷ one k.Bar ∷ one k.Name ∷ paired k.CloseParen 3 ∷ one k.Arrow ∷ one k.Name ∷ [])
    ≡ gives (node Module 0 10 (cons nil (cons (turn (cons (node ExpressionStatement 0 10 (cons
    (node TypedParenthesizedArrow 0 10 (cons nil (mark 0 (cons (node TypedParameters 1 1 (cons nil (cons nil nil)))
    (mark 1 (cons (mark 2 (cons (node ParenthesizedType 3 8 (mark 3 (cons (node UnionType 4 7 (cons
    (node EntityOfType 4 5 (cons (leaf as_name 4) (cons nil nil))) (mark 5 (cons (node EntityOfType 6 7 (cons
    (leaf as_name 6) (cons nil nil))) (cons nil nil))))) (mark 7 nil)))) nil)) (mark 8 (cons (cons (node Name 9 10
    (cons (leaf as_name 9) nil)) nil) nil)))))))) (cons nil nil))) nil) nil) nil))) 10)
    -- (this) => a
    × (read_program lang.Typescript mode.Module (paired k.OpenParen 2 ∷ one k.ThisWord ∷ paired k.CloseParen 0 ∷ one
    k.Arrow ∷ one k.Name ∷ [])
    ≡ gives (node Module 0 5
    (cons nil (cons (turn
    (cons (node ExpressionStatement 0 5
    (cons (node TypedParenthesizedArrow 0 5
    (cons nil (mark 0 (cons
    (node TypedParameters 1 2
    (cons (turn (cons (node ThisParameter 1 2
    (cons (leaf as_there 1) (cons nil (cons nil (cons nil
    nil))))) (cons nil nil)) nil) (cons nil nil))) (mark 2 (cons nil (mark 3 (cons (cons (node Name 4 5 (cons
    (leaf as_name 4) nil)) nil) nil)))))))) (cons nil nil))) nil) nil) nil))) 5)
    -- yield <T>(a) => b
    × (read_program lang.Typescript mode.Module (one k.YieldWord ∷ one k.Less ∷ one k.Name ∷ joined k.Greater ∷ paired
    k.OpenParen 6 ∷ one k.Name ∷ paired k.CloseParen 4 ∷ one k.Arrow ∷ one k.Name ∷ []) ≡ gives (node Module
    0 9 (cons nil (cons (turn (cons (node ExpressionStatement 0 9 (cons (node Yield 0 9 (mark 0
    (cons (cons nil (cons (node TypedParenthesizedArrow 1 9 (cons (cons (node TypeParameters 1 4
    (mark 1 (cons nil (cons (leaf as_name 2) (cons nil (cons nil (cons nil (cons nil (mark 3 nil))))))))) nil) (mark 4
    (cons (node TypedParameters 5 6 (cons (turn (cons (node NamePattern 5 6 (cons (leaf as_name 5) nil))
    (cons nil nil)) nil) (cons nil nil))) (mark 6 (cons nil (mark 7 (cons (cons (node Name 8 9 (cons (leaf
    as_name 8) nil)) nil) nil)))))))) nil)) nil))) (cons nil nil))) nil) nil) nil))) 9)
unfolding programs_on_keys
arrows_read =
    (refl, refl, refl, refl, refl, refl, refl, refl, refl, refl)

-- items of modules
items_read :
    -- export = a
    (read_program lang.Typescript mode.Module (one k.ExportWord ∷ one k.Equal ∷ one k.Name ∷ [])
    ≡ gives (node Module 0 3
    (cons nil (cons (turn (cons (node ExportAssignment 0 3 (mark 0 (mark 1 (cons (node Name 2 3
    (cons (leaf as_name 2) nil)) (cons nil nil))))) nil) nil) nil))) 3)
    -- export abstract class A { }
    × (read_program lang.Typescript mode.Module (one k.ExportWord ∷ one k.AbstractWord ∷ one k.ClassWord ∷ one k.Name
    ∷ paired k.OpenBrace 5 ∷ paired k.CloseBrace 4 ∷ []) ≡ gives (node Module 0 6 (cons nil (cons (turn (cons
    (node ExportDeclaration 0 6 (mark 0 (cons (node AbstractClass 1 6 (mark 1 (mark 2 (cons (leaf as_name 3)
    (cons nil (cons nil (cons nil (mark 4 (cons nil (mark 5 nil)))))))))) nil))) nil) nil) nil))) 6)
    -- export default abstract class { }
    × (read_program lang.Typescript mode.Module (one k.ExportWord ∷ one k.DefaultWord ∷ one k.AbstractWord ∷ one
    k.ClassWord ∷ paired k.OpenBrace 5 ∷ paired k.CloseBrace 4 ∷ []) ≡ gives (node Module 0 6 (cons nil (cons
    (turn (cons (node ExportDefaultClass 0 6 (mark 0 (mark 1 (cons (node AbstractClass 2 6 (mark 2 (mark 3
    (cons nil (cons nil (cons nil (cons nil (mark 4 (cons nil (mark 5 nil)))))))))) nil)))) nil) nil) nil))) 6)
    -- export default interface A { }
    × (read_program lang.Typescript mode.Module (one k.ExportWord ∷ one k.DefaultWord ∷ one k.InterfaceWord ∷ one
    k.Name ∷ paired k.OpenBrace 5 ∷ paired k.CloseBrace 4 ∷ []) ≡ gives (node Module 0 6 (cons nil (cons
    (turn (cons (node ExportDefaultInterface 0 6
    (mark 0 (mark 1 (cons (node InterfaceDeclaration 2 6 (mark 2 (cons (leaf as_name
    3) (cons nil (cons nil (mark 4 (cons nil (mark 5 nil)))))))) nil)))) nil) nil) nil))) 6)
    -- export type A = b
    × (read_program lang.Typescript mode.Module (one k.ExportWord ∷ one k.TypeWord ∷ one k.Name ∷ one k.Equal ∷ one
    k.Name ∷ []) ≡ gives (node Module 0 5 (cons nil (cons (turn (cons (node ExportDeclaration 0 5
    (mark 0 (cons (node AliasDeclaration 1 5 (mark 1 (cons (leaf as_name 2) (cons nil (mark 3 (cons (node EntityOfType 4
    5 (cons (leaf as_name 4) (cons nil nil))) (cons nil nil))))))) nil))) nil) nil) nil))) 5)
    -- export const enum A { }
    × (read_program lang.Typescript mode.Module (one k.ExportWord ∷ one k.ConstWord ∷ one k.EnumWord ∷ one k.Name ∷
    paired k.OpenBrace 5 ∷ paired k.CloseBrace 4 ∷ []) ≡ gives (node Module 0 6 (cons nil (cons (turn (cons
    (node ExportDeclaration 0 6 (mark 0 (cons (node EnumDeclaration 1 6 (cons (cons (leaf as_there 1) nil) (mark 2 (cons
    (leaf as_name 3) (mark 4 (cons nil (mark 5 nil))))))) nil))) nil) nil) nil))) 6)
    -- export declare namespace a { }
    × (read_program lang.Typescript mode.Module (one k.ExportWord ∷ one k.DeclareWord ∷ one k.NamespaceWord ∷ one
    k.Name ∷ paired k.OpenBrace 5 ∷ paired k.CloseBrace 4 ∷ []) ≡ gives (node Module 0 6 (cons nil (cons
    (turn (cons (node ExportDeclaration 0 6 (mark 0 (cons (node Declared 1 6 (mark 1 (cons (node NamespaceDeclaration 2
    6 (cons (leaf as_kind 2) (cons (node Entity 3 4 (cons (leaf as_name 3) (cons nil nil))) (mark 4 (cons nil
    (mark 5 nil)))))) nil))) nil))) nil) nil) nil))) 6)
    -- import { type a } from "b"
    × (read_program lang.Typescript mode.Module (one k.ImportWord ∷ paired k.OpenBrace 4 ∷ one k.TypeWord ∷ one k.Name
    ∷ paired k.CloseBrace 1 ∷ one k.FromWord ∷ one k.Str ∷ []) ≡ gives (node Module 0 7 (cons nil (cons (turn
    (cons (node FromImport 0 7 (mark 0 (cons nil (cons (node NamedImports 1 5 (mark 1 (cons (turn
    (cons (node ImportedName 2 4 (cons (cons (leaf as_there 2) nil) (cons (leaf as_name 3) nil))) (cons nil
    nil)) nil) (mark 4 nil)))) (mark 5 (cons (leaf as_str 6) (cons nil (cons nil nil)))))))) nil) nil) nil))) 7)
    -- export import a = require("b")
    × (read_program lang.Typescript mode.Module (one k.ExportWord ∷ one k.ImportWord ∷ one k.Name ∷ one k.Equal ∷ one
    k.RequireWord ∷ paired k.OpenParen 7 ∷ one k.Str ∷ paired k.CloseParen 5 ∷ []) ≡ gives (node Module 0 8
    (cons nil (cons (turn (cons (node ExportedRequireImport 0 8 (mark 0 (mark 1 (cons nil (cons (leaf as_name
    2) (mark 3 (mark 4 (mark 5 (cons (leaf as_str 6) (mark 7 (cons nil nil))))))))))) nil) nil) nil))) 8)
unfolding programs_on_keys
items_read =
    (refl, refl, refl, refl, refl, refl, refl, refl, refl)
