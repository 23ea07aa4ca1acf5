-- Programs of the plain language and their trees: each is what the reader of the table answers, by computing it. A line
-- end is written ⏎.
use Rattle.std.specs.Prelude.{[], ◌∷◌}
use Rattle.std.proofs.Common.{◌≡◌, refl}
use Rattle.es_token.specs.declared.token.TokenKind.TheVariants as k
use Rattle.grammar_theory.specs.declared.error.Lang.TheVariants as lang
use Rattle.grammar_theory.specs.declared.error.Mode.TheVariants as mode
use Rattle.grammar_theory.specs.Productions.{as_kind, as_name, as_raw, as_str, as_there}
use Rattle.grammar_theory.specs.Plain.{node, leaf, nil, cons, mark, turn, via}
use Rattle.grammar_theory.specs.Reader.{gives}
use Rattle.es_grammar.specs.declared.rows.NodeKind.TheVariants.{AccessorProperty, Arguments, ArrayLiteral, ArrayPattern, Assignment, AsyncFunction, AsyncNameArrow, Attributes, BareImport, Binary, Block, CallPost, Chain, Class, Conditional, Declarator, DefaultAndClause, DefaultClause, DefaultPattern, DeferCall, DeferImport, DoStatement, ExportAll, ExportDeclaration, ExportDefaultExpression, ExportDefaultFunction, ExportNames, ExportedName, ExpressionStatement, FieldMember, ForAwaitStatement, ForEachStatement, ForStatement, FromImport, Function, IfStatement, ImportCall, ImportMeta, KeyValue, LabelledStatement, MemberPost, MethodMember, Module, Name, NameArrow, NamePattern, NameProperty, NamedImports, Namespace, New, ObjectLiteral, ObjectPattern, OptionalPost, Parameters, Parenthesized, ParenthesizedArrow, PatternAssignment, PrivateIn, PrivateKey, RenamedImport, ReturnStatement, Script, Shorthand, Signature, SourceCall, SourceImport, Spread, SwitchStatement, Target, Template, TemplateParts, TryStatement, UnaryExpression, UpdatePostfix, UpdatePrefix, Using, UsingDeclaration, VariableDeclaration, VariableHead, Variables, WithStatement, WordKey, Yield}
use Rattle.es_grammar.specs.types.TypeReader.{one, joined, paired, line}
use Rattle.es_grammar.specs.ProgramReader.{read_program}
use Rattle.es_grammar.proofs.OnKeys.{programs_on_keys}

-- operators, arrows
operators :
    -- a = b
    (read_program lang.Es mode.Module (one k.Name ∷ one k.Equal ∷ one k.Name ∷ []) ≡ gives (node Module 0 3 (cons nil
    (cons (turn (cons (node ExpressionStatement 0 3 (cons (node Assignment 0 3 (cons (node Name 0 1 (cons (leaf
    as_name 0) nil)) (cons (cons (leaf as_kind 1) nil) (cons (node Name 2 3 (cons (leaf as_name 2) nil)) nil))))
    (cons nil nil))) nil) nil) nil))) 3)
    -- a . b ( c )
    × (read_program lang.Es mode.Module (one k.Name ∷ one k.Dot ∷ one k.Name ∷ paired k.OpenParen 5 ∷ one k.Name ∷
    paired k.CloseParen 3 ∷ []) ≡ gives (node Module 0 6 (cons nil (cons (turn (cons (node ExpressionStatement 0 6
    (cons (node Chain 0 6 (cons (node Name 0 1 (cons (leaf as_name 0) nil)) (cons (node MemberPost 1 3 (mark 1
    (cons (leaf as_name 2) nil))) (cons (turn (cons (node CallPost 3 6 (cons (node Arguments 3 6 (mark 3 (cons
    (turn (cons nil (cons (node Name 4 5 (cons (leaf as_name 4) nil)) (cons nil nil))) nil) (mark 5 nil)))) nil))
    nil) nil) nil)))) (cons nil nil))) nil) nil) nil))) 6)
    -- a + b * c
    × (read_program lang.Es mode.Module (one k.Name ∷ one k.Plus ∷ one k.Name ∷ one k.Star ∷ one k.Name ∷ []) ≡ gives
    (node Module 0 5 (cons nil (cons (turn (cons (node ExpressionStatement 0 5 (cons (node Binary 0 5 (cons (node
    Name 0 1 (cons (leaf as_name 0) nil)) (cons (leaf as_kind 1) (cons (node Binary 2 5 (cons (node Name 2 3 (cons
    (leaf as_name 2) nil)) (cons (leaf as_kind 3) (cons (node Name 4 5 (cons (leaf as_name 4) nil)) nil))))
    nil)))) (cons nil nil))) nil) nil) nil))) 5)
    -- a - b - c
    × (read_program lang.Es mode.Module (one k.Name ∷ one k.Minus ∷ one k.Name ∷ one k.Minus ∷ one k.Name ∷ []) ≡
    gives (node Module 0 5 (cons nil (cons (turn (cons (node ExpressionStatement 0 5 (cons (node Binary 0 5 (cons
    (node Binary 0 3 (cons (node Name 0 1 (cons (leaf as_name 0) nil)) (cons (leaf as_kind 1) (cons (node Name 2 3
    (cons (leaf as_name 2) nil)) nil)))) (cons (leaf as_kind 3) (cons (node Name 4 5 (cons (leaf as_name 4) nil))
    nil)))) (cons nil nil))) nil) nil) nil))) 5)
    -- a ** b ** c
    × (read_program lang.Es mode.Module (one k.Name ∷ one k.StarStar ∷ one k.Name ∷ one k.StarStar ∷ one k.Name ∷ [])
    ≡ gives (node Module 0 5 (cons nil (cons (turn (cons (node ExpressionStatement 0 5 (cons (node Binary 0 5
    (cons (node Name 0 1 (cons (leaf as_name 0) nil)) (cons (leaf as_kind 1) (cons (node Binary 2 5 (cons (node
    Name 2 3 (cons (leaf as_name 2) nil)) (cons (leaf as_kind 3) (cons (node Name 4 5 (cons (leaf as_name 4) nil))
    nil)))) nil)))) (cons nil nil))) nil) nil) nil))) 5)
    -- - a . b
    × (read_program lang.Es mode.Module (one k.Minus ∷ one k.Name ∷ one k.Dot ∷ one k.Name ∷ []) ≡ gives (node Module
    0 4 (cons nil (cons (turn (cons (node ExpressionStatement 0 4 (cons (node UnaryExpression 0 4 (cons (leaf
    as_kind 0) (cons (node Chain 1 4 (cons (node Name 1 2 (cons (leaf as_name 1) nil)) (cons (node MemberPost 2 4
    (mark 2 (cons (leaf as_name 3) nil))) (cons nil nil)))) nil))) (cons nil nil))) nil) nil) nil))) 4)
    -- a ++
    × (read_program lang.Es mode.Module (one k.Name ∷ one k.PlusPlus ∷ []) ≡ gives (node Module 0 2 (cons nil (cons
    (turn (cons (node ExpressionStatement 0 2 (cons (node UpdatePostfix 0 2 (cons (node Name 0 1 (cons (leaf
    as_name 0) nil)) (cons (leaf as_kind 1) nil))) (cons nil nil))) nil) nil) nil))) 2)
    -- a >> b > c
    × (read_program lang.Es mode.Module (one k.Name ∷ one k.Greater ∷ joined k.Greater ∷ one k.Name ∷ one k.Greater ∷
    one k.Name ∷ []) ≡ gives (node Module 0 6 (cons nil (cons (turn (cons (node ExpressionStatement 0 6 (cons
    (node Binary 0 6 (cons (node Binary 0 4 (cons (node Name 0 1 (cons (leaf as_name 0) nil)) (cons (cons (leaf
    as_kind 1) (cons (leaf as_there 2) (cons nil nil))) (cons (node Name 3 4 (cons (leaf as_name 3) nil)) nil))))
    (cons (cons (leaf as_kind 4) (cons nil nil)) (cons (node Name 5 6 (cons (leaf as_name 5) nil)) nil)))) (cons
    nil nil))) nil) nil) nil))) 6)
    -- a >>>= b
    × (read_program lang.Es mode.Module (one k.Name ∷ one k.Greater ∷ joined k.Greater ∷ joined k.Greater ∷ joined
    k.Equal ∷ one k.Name ∷ []) ≡ gives (node Module 0 6 (cons nil (cons (turn (cons (node ExpressionStatement 0 6
    (cons (node Assignment 0 6 (cons (node Name 0 1 (cons (leaf as_name 0) nil)) (cons (cons (leaf as_kind 1)
    (cons (leaf as_there 2) (cons (cons (leaf as_there 3) nil) (cons (leaf as_there 4) nil)))) (cons (node Name 5
    6 (cons (leaf as_name 5) nil)) nil)))) (cons nil nil))) nil) nil) nil))) 6)
    -- a || b && c
    × (read_program lang.Es mode.Module (one k.Name ∷ one k.BarBar ∷ one k.Name ∷ one k.AmpersandAmpersand ∷ one
    k.Name ∷ []) ≡ gives (node Module 0 5 (cons nil (cons (turn (cons (node ExpressionStatement 0 5 (cons (node
    Binary 0 5 (cons (node Name 0 1 (cons (leaf as_name 0) nil)) (cons (leaf as_kind 1) (cons (node Binary 2 5
    (cons (node Name 2 3 (cons (leaf as_name 2) nil)) (cons (leaf as_kind 3) (cons (node Name 4 5 (cons (leaf
    as_name 4) nil)) nil)))) nil)))) (cons nil nil))) nil) nil) nil))) 5)
    -- a ?? b
    × (read_program lang.Es mode.Module (one k.Name ∷ one k.QuestionQuestion ∷ one k.Name ∷ []) ≡ gives (node Module 0
    3 (cons nil (cons (turn (cons (node ExpressionStatement 0 3 (cons (node Binary 0 3 (cons (node Name 0 1 (cons
    (leaf as_name 0) nil)) (cons (leaf as_kind 1) (cons (node Name 2 3 (cons (leaf as_name 2) nil)) nil)))) (cons
    nil nil))) nil) nil) nil))) 3)
    -- a ? b : c
    × (read_program lang.Es mode.Module (one k.Name ∷ one k.Question ∷ one k.Name ∷ one k.Colon ∷ one k.Name ∷ []) ≡
    gives (node Module 0 5 (cons nil (cons (turn (cons (node ExpressionStatement 0 5 (cons (node Conditional 0 5
    (cons (node Name 0 1 (cons (leaf as_name 0) nil)) (mark 1 (cons (node Name 2 3 (cons (leaf as_name 2) nil))
    (mark 3 (cons (node Name 4 5 (cons (leaf as_name 4) nil)) nil)))))) (cons nil nil))) nil) nil) nil))) 5)
    -- ( a ) => b
    × (read_program lang.Es mode.Module (paired k.OpenParen 2 ∷ one k.Name ∷ paired k.CloseParen 0 ∷ one k.Arrow ∷ one
    k.Name ∷ []) ≡ gives (node Module 0 5 (cons nil (cons (turn (cons (node ExpressionStatement 0 5 (cons (node
    ParenthesizedArrow 0 5 (mark 0 (cons (node Parameters 1 2 (cons (turn (cons (node NamePattern 1 2 (cons (leaf
    as_name 1) nil)) (cons nil nil)) nil) (cons nil nil))) (mark 2 (mark 3 (cons (cons (node Name 4 5 (cons (leaf
    as_name 4) nil)) nil) nil)))))) (cons nil nil))) nil) nil) nil))) 5)
    -- async a => { }
    × (read_program lang.Es mode.Module (one k.AsyncWord ∷ one k.Name ∷ one k.Arrow ∷ paired k.OpenBrace 4 ∷ paired
    k.CloseBrace 3 ∷ []) ≡ gives (node Module 0 5 (cons nil (cons (turn (cons (node ExpressionStatement 0 5 (cons
    (node AsyncNameArrow 0 5 (mark 0 (cons (leaf as_name 1) (mark 2 (cons (cons (node Block 3 5 (mark 3 (cons nil
    (mark 4 nil)))) nil) nil))))) (cons nil nil))) nil) nil) nil))) 5)
    -- a ? ( b ) : c => d
    × (read_program lang.Es mode.Module (one k.Name ∷ one k.Question ∷ paired k.OpenParen 4 ∷ one k.Name ∷ paired
    k.CloseParen 2 ∷ one k.Colon ∷ one k.Name ∷ one k.Arrow ∷ one k.Name ∷ []) ≡ gives (node Module 0 9 (cons nil
    (cons (turn (cons (node ExpressionStatement 0 9 (cons (node Conditional 0 9 (cons (node Name 0 1 (cons (leaf
    as_name 0) nil)) (mark 1 (cons (node Parenthesized 2 5 (mark 2 (cons (node Name 3 4 (cons (leaf as_name 3)
    nil)) (mark 4 nil)))) (mark 5 (cons (node NameArrow 6 9 (cons (leaf as_name 6) (mark 7 (cons (cons (node Name
    8 9 (cons (leaf as_name 8) nil)) nil) nil)))) nil)))))) (cons nil nil))) nil) nil) nil))) 9)
unfolding programs_on_keys
operators =
    (refl, refl, refl, refl, refl, refl, refl, refl, refl, refl, refl, refl, refl, refl, refl)

-- literals, patterns, chains, templates
operands :
    -- [ a , , ...b ]
    (read_program lang.Es mode.Module (paired k.OpenBracket 6 ∷ one k.Name ∷ one k.Comma ∷ one k.Comma ∷ one
    k.Ellipsis ∷ one k.Name ∷ paired k.CloseBracket 0 ∷ []) ≡ gives (node Module 0 7 (cons nil (cons (turn (cons
    (node ExpressionStatement 0 7 (cons (node ArrayLiteral 0 7 (mark 0 (cons (turn (cons (cons (node Name 1 2
    (cons (leaf as_name 1) nil)) (cons (mark 2 nil) nil)) nil) (turn (cons (mark 3 nil) nil) (turn (cons (cons
    (node Spread 4 6 (mark 4 (cons (node Name 5 6 (cons (leaf as_name 5) nil)) nil))) (cons nil nil)) nil) nil)))
    (mark 6 nil)))) (cons nil nil))) nil) nil) nil))) 7)
    -- [ a , b . c = d ] = e
    × (read_program lang.Es mode.Module (paired k.OpenBracket 8 ∷ one k.Name ∷ one k.Comma ∷ one k.Name ∷ one k.Dot ∷
    one k.Name ∷ one k.Equal ∷ one k.Name ∷ paired k.CloseBracket 0 ∷ one k.Equal ∷ one k.Name ∷ []) ≡ gives (node
    Module 0 11 (cons nil (cons (turn (cons (node ExpressionStatement 0 11 (cons (node PatternAssignment 0 11
    (cons (node ArrayPattern 0 9 (mark 0 (cons (turn (cons (cons (via Target (node Name 1 2 (cons (leaf as_name 1)
    nil))) (cons (mark 2 nil) nil)) nil) (turn (cons (cons (node DefaultPattern 3 8 (cons (via Target (node Chain
    3 6 (cons (node Name 3 4 (cons (leaf as_name 3) nil)) (cons (node MemberPost 4 6 (mark 4 (cons (leaf as_name
    5) nil))) (cons nil nil))))) (mark 6 (cons (node Name 7 8 (cons (leaf as_name 7) nil)) nil)))) (cons nil nil))
    nil) nil)) (mark 8 nil)))) (mark 9 (cons (node Name 10 11 (cons (leaf as_name 10) nil)) nil)))) (cons nil
    nil))) nil) nil) nil))) 11)
    -- ( { a , b : c , get d ( ) { } } )
    × (read_program lang.Es mode.Module (paired k.OpenParen 15 ∷ paired k.OpenBrace 14 ∷ one k.Name ∷ one k.Comma ∷
    one k.Name ∷ one k.Colon ∷ one k.Name ∷ one k.Comma ∷ one k.GetWord ∷ one k.Name ∷ paired k.OpenParen 11 ∷
    paired k.CloseParen 10 ∷ paired k.OpenBrace 13 ∷ paired k.CloseBrace 12 ∷ paired k.CloseBrace 1 ∷ paired
    k.CloseParen 0 ∷ []) ≡ gives (node Module 0 16 (cons nil (cons (turn (cons (node ExpressionStatement 0 16
    (cons (node Parenthesized 0 16 (mark 0 (cons (node ObjectLiteral 1 15 (mark 1 (cons (turn (cons (node
    Shorthand 2 3 (cons (leaf as_name 2) nil)) (cons (mark 3 nil) nil)) (turn (cons (node KeyValue 4 7 (cons (node
    WordKey 4 5 (cons (leaf as_name 4) nil)) (mark 5 (cons (node Name 6 7 (cons (leaf as_name 6) nil)) nil))))
    (cons (mark 7 nil) nil)) (turn (cons (node AccessorProperty 8 14 (cons (leaf as_kind 8) (cons (node WordKey 9
    10 (cons (leaf as_name 9) nil)) (cons (node Signature 10 12 (mark 10 (cons (node Parameters 11 11 (cons nil
    (cons nil nil))) (mark 11 nil)))) (cons (node Block 12 14 (mark 12 (cons nil (mark 13 nil)))) nil))))) (cons
    nil nil)) nil))) (mark 14 nil)))) (mark 15 nil)))) (cons nil nil))) nil) nil) nil))) 16)
    -- new a . b ( )
    × (read_program lang.Es mode.Module (one k.NewWord ∷ one k.Name ∷ one k.Dot ∷ one k.Name ∷ paired k.OpenParen 5 ∷
    paired k.CloseParen 4 ∷ []) ≡ gives (node Module 0 6 (cons nil (cons (turn (cons (node ExpressionStatement 0 6
    (cons (node New 0 6 (mark 0 (cons (node Chain 1 4 (cons (node Name 1 2 (cons (leaf as_name 1) nil)) (cons
    (node MemberPost 2 4 (mark 2 (cons (leaf as_name 3) nil))) (cons nil nil)))) (cons (cons (node Arguments 4 6
    (mark 4 (cons nil (mark 5 nil)))) nil) nil)))) (cons nil nil))) nil) nil) nil))) 6)
    -- new a ( ) . b
    × (read_program lang.Es mode.Module (one k.NewWord ∷ one k.Name ∷ paired k.OpenParen 3 ∷ paired k.CloseParen 2 ∷
    one k.Dot ∷ one k.Name ∷ []) ≡ gives (node Module 0 6 (cons nil (cons (turn (cons (node ExpressionStatement 0
    6 (cons (node Chain 0 6 (cons (node New 0 4 (mark 0 (cons (node Name 1 2 (cons (leaf as_name 1) nil)) (cons
    (cons (node Arguments 2 4 (mark 2 (cons nil (mark 3 nil)))) nil) nil)))) (cons (node MemberPost 4 6 (mark 4
    (cons (leaf as_name 5) nil))) (cons nil nil)))) (cons nil nil))) nil) nil) nil))) 6)
    -- a ?. [ b ]
    × (read_program lang.Es mode.Module (one k.Name ∷ one k.QuestionDot ∷ paired k.OpenBracket 4 ∷ one k.Name ∷ paired
    k.CloseBracket 2 ∷ []) ≡ gives (node Module 0 5 (cons nil (cons (turn (cons (node ExpressionStatement 0 5
    (cons (node Chain 0 5 (cons (node Name 0 1 (cons (leaf as_name 0) nil)) (cons (node OptionalPost 1 5 (mark 1
    (cons (mark 2 (cons (node Name 3 4 (cons (leaf as_name 3) nil)) (mark 4 nil))) nil))) (cons nil nil)))) (cons
    nil nil))) nil) nil) nil))) 5)
    -- #a in b
    × (read_program lang.Es mode.Module (one k.PrivateName ∷ one k.InWord ∷ one k.Name ∷ []) ≡ gives (node Module 0 3
    (cons nil (cons (turn (cons (node ExpressionStatement 0 3 (cons (node PrivateIn 0 3 (cons (leaf as_name 0)
    (mark 1 (cons (node Name 2 3 (cons (leaf as_name 2) nil)) nil)))) (cons nil nil))) nil) nil) nil))) 3)
    -- `a`
    × (read_program lang.Es mode.Module (one k.TemplateWhole ∷ []) ≡ gives (node Module 0 1 (cons nil (cons (turn
    (cons (node ExpressionStatement 0 1 (cons (node Template 0 1 (cons (leaf as_raw 0) nil)) (cons nil nil))) nil)
    nil) nil))) 1)
    -- `a${ b }c`
    × (read_program lang.Es mode.Module (paired k.TemplateHead 2 ∷ one k.Name ∷ paired k.TemplateTail 0 ∷ []) ≡ gives
    (node Module 0 3 (cons nil (cons (turn (cons (node ExpressionStatement 0 3 (cons (node TemplateParts 0 3 (cons
    (leaf as_raw 0) (cons (node Name 1 2 (cons (leaf as_name 1) nil)) (cons nil (cons (leaf as_raw 2) nil)))))
    (cons nil nil))) nil) nil) nil))) 3)
unfolding programs_on_keys
operands =
    (refl, refl, refl, refl, refl, refl, refl, refl, refl)

-- statements
statements :
    -- a ; b
    (read_program lang.Es mode.Module (one k.Name ∷ one k.Semicolon ∷ one k.Name ∷ []) ≡ gives (node Module 0 3 (cons
    nil (cons (turn (cons (node ExpressionStatement 0 2 (cons (node Name 0 1 (cons (leaf as_name 0) nil)) (cons
    (mark 1 nil) nil))) nil) (turn (cons (node ExpressionStatement 2 3 (cons (node Name 2 3 (cons (leaf as_name 2)
    nil)) (cons nil nil))) nil) nil)) nil))) 3)
    -- a⏎ b
    × (read_program lang.Es mode.Module (one k.Name ∷ line k.Name ∷ []) ≡ gives (node Module 0 2 (cons nil (cons (turn
    (cons (node ExpressionStatement 0 1 (cons (node Name 0 1 (cons (leaf as_name 0) nil)) (cons nil nil))) nil)
    (turn (cons (node ExpressionStatement 1 2 (cons (node Name 1 2 (cons (leaf as_name 1) nil)) (cons nil nil)))
    nil) nil)) nil))) 2)
    -- a⏎ ++ b
    × (read_program lang.Es mode.Module (one k.Name ∷ line k.PlusPlus ∷ one k.Name ∷ []) ≡ gives (node Module 0 3
    (cons nil (cons (turn (cons (node ExpressionStatement 0 1 (cons (node Name 0 1 (cons (leaf as_name 0) nil))
    (cons nil nil))) nil) (turn (cons (node ExpressionStatement 1 3 (cons (node UpdatePrefix 1 3 (cons (leaf
    as_kind 1) (cons (node Name 2 3 (cons (leaf as_name 2) nil)) nil))) (cons nil nil))) nil) nil)) nil))) 3)
    -- { }
    × (read_program lang.Es mode.Module (paired k.OpenBrace 1 ∷ paired k.CloseBrace 0 ∷ []) ≡ gives (node Module 0 2
    (cons nil (cons (turn (cons (node Block 0 2 (mark 0 (cons nil (mark 1 nil)))) nil) nil) nil))) 2)
    -- a : b
    × (read_program lang.Es mode.Module (one k.Name ∷ one k.Colon ∷ one k.Name ∷ []) ≡ gives (node Module 0 3 (cons
    nil (cons (turn (cons (node LabelledStatement 0 3 (cons (leaf as_name 0) (mark 1 (cons (node
    ExpressionStatement 2 3 (cons (node Name 2 3 (cons (leaf as_name 2) nil)) (cons nil nil))) nil)))) nil) nil)
    nil))) 3)
    -- if ( a ) if ( b ) c ; else d
    × (read_program lang.Es mode.Module (one k.IfWord ∷ paired k.OpenParen 3 ∷ one k.Name ∷ paired k.CloseParen 1 ∷
    one k.IfWord ∷ paired k.OpenParen 7 ∷ one k.Name ∷ paired k.CloseParen 5 ∷ one k.Name ∷ one k.Semicolon ∷ one
    k.ElseWord ∷ one k.Name ∷ []) ≡ gives (node Module 0 12 (cons nil (cons (turn (cons (node IfStatement 0 12
    (mark 0 (mark 1 (cons (node Name 2 3 (cons (leaf as_name 2) nil)) (mark 3 (cons (node IfStatement 4 12 (mark 4
    (mark 5 (cons (node Name 6 7 (cons (leaf as_name 6) nil)) (mark 7 (cons (node ExpressionStatement 8 10 (cons
    (node Name 8 9 (cons (leaf as_name 8) nil)) (cons (mark 9 nil) nil))) (cons (mark 10 (cons (node
    ExpressionStatement 11 12 (cons (node Name 11 12 (cons (leaf as_name 11) nil)) (cons nil nil))) nil))
    nil))))))) (cons nil nil))))))) nil) nil) nil))) 12)
    -- for ( ; ; ) a
    × (read_program lang.Es mode.Module (one k.ForWord ∷ paired k.OpenParen 4 ∷ one k.Semicolon ∷ one k.Semicolon ∷
    paired k.CloseParen 1 ∷ one k.Name ∷ []) ≡ gives (node Module 0 6 (cons nil (cons (turn (cons (node
    ForStatement 0 6 (mark 0 (mark 1 (cons nil (cons nil (cons nil (mark 2 (cons nil (mark 3 (cons nil (mark 4
    (cons (node ExpressionStatement 5 6 (cons (node Name 5 6 (cons (leaf as_name 5) nil)) (cons nil nil)))
    nil)))))))))))) nil) nil) nil))) 6)
    -- for ( let a of b ) c
    × (read_program lang.Es mode.Module (one k.ForWord ∷ paired k.OpenParen 6 ∷ one k.LetWord ∷ one k.Name ∷ one
    k.OfWord ∷ one k.Name ∷ paired k.CloseParen 1 ∷ one k.Name ∷ []) ≡ gives (node Module 0 8 (cons nil (cons
    (turn (cons (node ForEachStatement 0 8 (mark 0 (mark 1 (cons (node VariableHead 2 4 (cons (leaf as_kind 2)
    (cons (node NamePattern 3 4 (cons (leaf as_name 3) nil)) nil))) (cons (cons (leaf as_kind 4) (cons (node Name
    5 6 (cons (leaf as_name 5) nil)) nil)) (mark 6 (cons (node ExpressionStatement 7 8 (cons (node Name 7 8 (cons
    (leaf as_name 7) nil)) (cons nil nil))) nil))))))) nil) nil) nil))) 8)
    -- for ( a . b in c ) d
    × (read_program lang.Es mode.Module (one k.ForWord ∷ paired k.OpenParen 7 ∷ one k.Name ∷ one k.Dot ∷ one k.Name ∷
    one k.InWord ∷ one k.Name ∷ paired k.CloseParen 1 ∷ one k.Name ∷ []) ≡ gives (node Module 0 9 (cons nil (cons
    (turn (cons (node ForEachStatement 0 9 (mark 0 (mark 1 (cons (via Target (node Chain 2 5 (cons (node Name 2 3
    (cons (leaf as_name 2) nil)) (cons (node MemberPost 3 5 (mark 3 (cons (leaf as_name 4) nil))) (cons nil
    nil))))) (cons (cons (leaf as_kind 5) (cons (node Name 6 7 (cons (leaf as_name 6) nil)) nil)) (mark 7 (cons
    (node ExpressionStatement 8 9 (cons (node Name 8 9 (cons (leaf as_name 8) nil)) (cons nil nil))) nil)))))))
    nil) nil) nil))) 9)
    -- for ( let of of a ) b
    × (read_program lang.Es mode.Module (one k.ForWord ∷ paired k.OpenParen 6 ∷ one k.LetWord ∷ one k.OfWord ∷ one
    k.OfWord ∷ one k.Name ∷ paired k.CloseParen 1 ∷ one k.Name ∷ []) ≡ gives (node Module 0 8 (cons nil (cons
    (turn (cons (node ForEachStatement 0 8 (mark 0 (mark 1 (cons (node VariableHead 2 4 (cons (leaf as_kind 2)
    (cons (node NamePattern 3 4 (cons (leaf as_name 3) nil)) nil))) (cons (cons (leaf as_kind 4) (cons (node Name
    5 6 (cons (leaf as_name 5) nil)) nil)) (mark 6 (cons (node ExpressionStatement 7 8 (cons (node Name 7 8 (cons
    (leaf as_name 7) nil)) (cons nil nil))) nil))))))) nil) nil) nil))) 8)
    -- for await ( a of b ) c
    × (read_program lang.Es mode.Module (one k.ForWord ∷ one k.AwaitWord ∷ paired k.OpenParen 6 ∷ one k.Name ∷ one
    k.OfWord ∷ one k.Name ∷ paired k.CloseParen 2 ∷ one k.Name ∷ []) ≡ gives (node Module 0 8 (cons nil (cons
    (turn (cons (node ForAwaitStatement 0 8 (mark 0 (mark 1 (mark 2 (cons (via Target (node Name 3 4 (cons (leaf
    as_name 3) nil))) (mark 4 (cons (node Name 5 6 (cons (leaf as_name 5) nil)) (mark 6 (cons (node
    ExpressionStatement 7 8 (cons (node Name 7 8 (cons (leaf as_name 7) nil)) (cons nil nil))) nil))))))))) nil)
    nil) nil))) 8)
    -- do a ; while ( b )
    × (read_program lang.Es mode.Module (one k.DoWord ∷ one k.Name ∷ one k.Semicolon ∷ one k.WhileWord ∷ paired
    k.OpenParen 6 ∷ one k.Name ∷ paired k.CloseParen 4 ∷ []) ≡ gives (node Module 0 7 (cons nil (cons (turn (cons
    (node DoStatement 0 7 (mark 0 (cons (node ExpressionStatement 1 3 (cons (node Name 1 2 (cons (leaf as_name 1)
    nil)) (cons (mark 2 nil) nil))) (mark 3 (mark 4 (cons (node Name 5 6 (cons (leaf as_name 5) nil)) (mark 6
    (cons nil nil)))))))) nil) nil) nil))) 7)
    -- return⏎ a (a script)
    × (read_program lang.Es mode.Script (one k.ReturnWord ∷ line k.Name ∷ []) ≡ gives (node Script 0 2 (cons nil (cons
    (turn (cons (node ReturnStatement 0 1 (mark 0 (cons (cons nil nil) nil))) nil) (turn (cons (node
    ExpressionStatement 1 2 (cons (node Name 1 2 (cons (leaf as_name 1) nil)) (cons nil nil))) nil) nil)) nil)))
    2)
    -- try { } catch { } finally { }
    × (read_program lang.Es mode.Module (one k.TryWord ∷ paired k.OpenBrace 2 ∷ paired k.CloseBrace 1 ∷ one
    k.CatchWord ∷ paired k.OpenBrace 5 ∷ paired k.CloseBrace 4 ∷ one k.FinallyWord ∷ paired k.OpenBrace 8 ∷ paired
    k.CloseBrace 7 ∷ []) ≡ gives (node Module 0 9 (cons nil (cons (turn (cons (node TryStatement 0 9 (mark 0 (cons
    (node Block 1 3 (mark 1 (cons nil (mark 2 nil)))) (cons (mark 3 (cons nil (cons (node Block 4 6 (mark 4 (cons
    nil (mark 5 nil)))) (cons (mark 6 (cons (node Block 7 9 (mark 7 (cons nil (mark 8 nil)))) nil)) nil))))
    nil)))) nil) nil) nil))) 9)
    -- switch ( a ) { case b : c ; default : }
    × (read_program lang.Es mode.Module (one k.SwitchWord ∷ paired k.OpenParen 3 ∷ one k.Name ∷ paired k.CloseParen 1
    ∷ paired k.OpenBrace 12 ∷ one k.CaseWord ∷ one k.Name ∷ one k.Colon ∷ one k.Name ∷ one k.Semicolon ∷ one
    k.DefaultWord ∷ one k.Colon ∷ paired k.CloseBrace 4 ∷ []) ≡ gives (node Module 0 13 (cons nil (cons (turn
    (cons (node SwitchStatement 0 13 (mark 0 (mark 1 (cons (node Name 2 3 (cons (leaf as_name 2) nil)) (mark 3
    (mark 4 (cons (turn (cons (mark 5 (cons (node Name 6 7 (cons (leaf as_name 6) nil)) nil)) (mark 7 (cons (turn
    (cons (node ExpressionStatement 8 10 (cons (node Name 8 9 (cons (leaf as_name 8) nil)) (cons (mark 9 nil)
    nil))) nil) nil) nil))) (turn (cons (mark 10 nil) (mark 11 (cons nil nil))) nil)) (mark 12 nil)))))))) nil)
    nil) nil))) 13)
    -- var a = b , { c } = d
    × (read_program lang.Es mode.Module (one k.VarWord ∷ one k.Name ∷ one k.Equal ∷ one k.Name ∷ one k.Comma ∷ paired
    k.OpenBrace 7 ∷ one k.Name ∷ paired k.CloseBrace 5 ∷ one k.Equal ∷ one k.Name ∷ []) ≡ gives (node Module 0 10
    (cons nil (cons (turn (cons (node VariableDeclaration 0 10 (cons (node Variables 0 10 (cons (leaf as_kind 0)
    (cons (node Declarator 1 4 (cons (node NamePattern 1 2 (cons (leaf as_name 1) nil)) (mark 2 (cons (node Name 3
    4 (cons (leaf as_name 3) nil)) nil)))) (cons (turn (mark 4 (cons (node Declarator 5 10 (cons (node
    ObjectPattern 5 8 (mark 5 (cons (turn (cons (node NameProperty 6 7 (cons (leaf as_name 6) (cons nil nil)))
    (cons nil nil)) nil) (mark 7 nil)))) (mark 8 (cons (node Name 9 10 (cons (leaf as_name 9) nil)) nil)))) nil))
    nil) nil)))) (cons nil nil))) nil) nil) nil))) 10)
    -- using a = b
    × (read_program lang.Es mode.Module (one k.UsingWord ∷ one k.Name ∷ one k.Equal ∷ one k.Name ∷ []) ≡ gives (node
    Module 0 4 (cons nil (cons (turn (cons (node UsingDeclaration 0 4 (cons (node Using 0 4 (cons nil (mark 0
    (cons (node Declarator 1 4 (cons (node NamePattern 1 2 (cons (leaf as_name 1) nil)) (mark 2 (cons (node Name 3
    4 (cons (leaf as_name 3) nil)) nil)))) (cons nil nil))))) (cons nil nil))) nil) nil) nil))) 4)
    -- with ( a ) b (a script)
    × (read_program lang.Es mode.Script (one k.WithWord ∷ paired k.OpenParen 3 ∷ one k.Name ∷ paired k.CloseParen 1 ∷
    one k.Name ∷ []) ≡ gives (node Script 0 5 (cons nil (cons (turn (cons (node WithStatement 0 5 (mark 0 (mark 1
    (cons (node Name 2 3 (cons (leaf as_name 2) nil)) (mark 3 (cons (node ExpressionStatement 4 5 (cons (node Name
    4 5 (cons (leaf as_name 4) nil)) (cons nil nil))) nil)))))) nil) nil) nil))) 5)
unfolding programs_on_keys
statements =
    (refl, refl, refl, refl, refl, refl, refl, refl, refl, refl, refl, refl, refl, refl, refl, refl, refl, refl)

-- functions and classes
declarations :
    -- function a ( b , ...c ) { }
    (read_program lang.Es mode.Module (one k.FunctionWord ∷ one k.Name ∷ paired k.OpenParen 7 ∷ one k.Name ∷ one
    k.Comma ∷ one k.Ellipsis ∷ one k.Name ∷ paired k.CloseParen 2 ∷ paired k.OpenBrace 9 ∷ paired k.CloseBrace 8 ∷
    []) ≡ gives (node Module 0 10 (cons nil (cons (turn (cons (node Function 0 10 (mark 0 (cons nil (cons (leaf
    as_name 1) (cons (node Signature 2 8 (mark 2 (cons (node Parameters 3 7 (cons (turn (cons (node NamePattern 3
    4 (cons (leaf as_name 3) nil)) (cons (mark 4 nil) nil)) nil) (cons (mark 5 (cons (node NamePattern 6 7 (cons
    (leaf as_name 6) nil)) nil)) nil))) (mark 7 nil)))) (cons (node Block 8 10 (mark 8 (cons nil (mark 9 nil))))
    nil)))))) nil) nil) nil))) 10)
    -- async function * a ( ) { }
    × (read_program lang.Es mode.Module (one k.AsyncWord ∷ one k.FunctionWord ∷ one k.Star ∷ one k.Name ∷ paired
    k.OpenParen 5 ∷ paired k.CloseParen 4 ∷ paired k.OpenBrace 7 ∷ paired k.CloseBrace 6 ∷ []) ≡ gives (node
    Module 0 8 (cons nil (cons (turn (cons (node AsyncFunction 0 8 (mark 0 (mark 1 (cons (cons (leaf as_there 2)
    nil) (cons (leaf as_name 3) (cons (node Signature 4 6 (mark 4 (cons (node Parameters 5 5 (cons nil (cons nil
    nil))) (mark 5 nil)))) (cons (node Block 6 8 (mark 6 (cons nil (mark 7 nil)))) nil))))))) nil) nil) nil))) 8)
    -- function * a ( ) { yield⏎ b }
    × (read_program lang.Es mode.Module (one k.FunctionWord ∷ one k.Star ∷ one k.Name ∷ paired k.OpenParen 4 ∷ paired
    k.CloseParen 3 ∷ paired k.OpenBrace 8 ∷ one k.YieldWord ∷ line k.Name ∷ paired k.CloseBrace 5 ∷ []) ≡ gives
    (node Module 0 9 (cons nil (cons (turn (cons (node Function 0 9 (mark 0 (cons (cons (leaf as_there 1) nil)
    (cons (leaf as_name 2) (cons (node Signature 3 5 (mark 3 (cons (node Parameters 4 4 (cons nil (cons nil nil)))
    (mark 4 nil)))) (cons (node Block 5 9 (mark 5 (cons (turn (cons (node ExpressionStatement 6 7 (cons (node
    Yield 6 7 (mark 6 (cons nil nil))) (cons nil nil))) nil) (turn (cons (node ExpressionStatement 7 8 (cons (node
    Name 7 8 (cons (leaf as_name 7) nil)) (cons nil nil))) nil) nil)) (mark 8 nil)))) nil)))))) nil) nil) nil)))
    9)
    -- class a extends b { static c = d ; e ( ) { } #f }
    × (read_program lang.Es mode.Module (one k.ClassWord ∷ one k.Name ∷ one k.ExtendsWord ∷ one k.Name ∷ paired
    k.OpenBrace 16 ∷ one k.StaticWord ∷ one k.Name ∷ one k.Equal ∷ one k.Name ∷ one k.Semicolon ∷ one k.Name ∷
    paired k.OpenParen 12 ∷ paired k.CloseParen 11 ∷ paired k.OpenBrace 14 ∷ paired k.CloseBrace 13 ∷ one
    k.PrivateName ∷ paired k.CloseBrace 4 ∷ []) ≡ gives (node Module 0 17 (cons nil (cons (turn (cons (node Class
    0 17 (mark 0 (cons (leaf as_name 1) (cons (mark 2 (cons (node Name 3 4 (cons (leaf as_name 3) nil)) nil))
    (mark 4 (cons (turn (cons (node FieldMember 5 10 (cons (cons (leaf as_there 5) nil) (cons (node WordKey 6 7
    (cons (leaf as_name 6) nil)) (cons (mark 7 (cons (node Name 8 9 (cons (leaf as_name 8) nil)) nil)) (cons (mark
    9 nil) nil))))) nil) (turn (cons (node MethodMember 10 15 (cons nil (cons (node WordKey 10 11 (cons (leaf
    as_name 10) nil)) (cons (node Signature 11 13 (mark 11 (cons (node Parameters 12 12 (cons nil (cons nil nil)))
    (mark 12 nil)))) (cons (node Block 13 15 (mark 13 (cons nil (mark 14 nil)))) nil))))) nil) (turn (cons (node
    FieldMember 15 16 (cons nil (cons (node PrivateKey 15 16 (cons (leaf as_name 15) nil)) (cons nil (cons nil
    nil))))) nil) nil))) (mark 16 nil))))))) nil) nil) nil))) 17)
unfolding programs_on_keys
declarations =
    (refl, refl, refl, refl)

-- imports and exports
items :
    -- import "a"
    (read_program lang.Es mode.Module (one k.ImportWord ∷ one k.Str ∷ []) ≡ gives (node Module 0 2 (cons nil (cons
    (turn (cons (node BareImport 0 2 (mark 0 (cons (leaf as_str 1) (cons nil (cons nil nil))))) nil) nil) nil)))
    2)
    -- import a , { b as c } from "d"
    × (read_program lang.Es mode.Module (one k.ImportWord ∷ one k.Name ∷ one k.Comma ∷ paired k.OpenBrace 7 ∷ one
    k.Name ∷ one k.AsWord ∷ one k.Name ∷ paired k.CloseBrace 3 ∷ one k.FromWord ∷ one k.Str ∷ []) ≡ gives (node
    Module 0 10 (cons nil (cons (turn (cons (node FromImport 0 10 (mark 0 (cons nil (cons (node DefaultAndClause 1
    8 (cons (leaf as_name 1) (mark 2 (cons (node NamedImports 3 8 (mark 3 (cons (turn (cons (node RenamedImport 4
    7 (cons nil (cons (cons (leaf as_name 4) nil) (mark 5 (cons (leaf as_name 6) nil))))) (cons nil nil)) nil)
    (mark 7 nil)))) nil)))) (mark 8 (cons (leaf as_str 9) (cons nil (cons nil nil)))))))) nil) nil) nil))) 10)
    -- import * as a from "b" with { c : "d" }
    × (read_program lang.Es mode.Module (one k.ImportWord ∷ one k.Star ∷ one k.AsWord ∷ one k.Name ∷ one k.FromWord ∷
    one k.Str ∷ one k.WithWord ∷ paired k.OpenBrace 11 ∷ one k.Name ∷ one k.Colon ∷ one k.Str ∷ paired
    k.CloseBrace 7 ∷ []) ≡ gives (node Module 0 12 (cons nil (cons (turn (cons (node FromImport 0 12 (mark 0 (cons
    nil (cons (node Namespace 1 4 (mark 1 (mark 2 (cons (leaf as_name 3) nil)))) (mark 4 (cons (leaf as_str 5)
    (cons (cons (node Attributes 6 12 (mark 6 (mark 7 (cons (turn (cons (cons (leaf as_name 8) nil) (mark 9 (cons
    (leaf as_str 10) (cons nil nil)))) nil) (mark 11 nil))))) nil) (cons nil nil)))))))) nil) nil) nil))) 12)
    -- export * from "a"
    × (read_program lang.Es mode.Module (one k.ExportWord ∷ one k.Star ∷ one k.FromWord ∷ one k.Str ∷ []) ≡ gives
    (node Module 0 4 (cons nil (cons (turn (cons (node ExportAll 0 4 (mark 0 (cons nil (mark 1 (cons nil (mark 2
    (cons (leaf as_str 3) (cons nil (cons nil nil))))))))) nil) nil) nil))) 4)
    -- export { a as b }
    × (read_program lang.Es mode.Module (one k.ExportWord ∷ paired k.OpenBrace 5 ∷ one k.Name ∷ one k.AsWord ∷ one
    k.Name ∷ paired k.CloseBrace 1 ∷ []) ≡ gives (node Module 0 6 (cons nil (cons (turn (cons (node ExportNames 0
    6 (mark 0 (cons nil (mark 1 (cons (turn (cons (node ExportedName 2 5 (cons nil (cons (cons (leaf as_name 2)
    nil) (cons (mark 3 (cons (cons (leaf as_name 4) nil) nil)) nil)))) (cons nil nil)) nil) (mark 5 (cons nil
    (cons nil nil)))))))) nil) nil) nil))) 6)
    -- export default a
    × (read_program lang.Es mode.Module (one k.ExportWord ∷ one k.DefaultWord ∷ one k.Name ∷ []) ≡ gives (node Module
    0 3 (cons nil (cons (turn (cons (node ExportDefaultExpression 0 3 (mark 0 (mark 1 (cons (node Name 2 3 (cons
    (leaf as_name 2) nil)) (cons nil nil))))) nil) nil) nil))) 3)
    -- export default function ( ) { }
    × (read_program lang.Es mode.Module (one k.ExportWord ∷ one k.DefaultWord ∷ one k.FunctionWord ∷ paired
    k.OpenParen 4 ∷ paired k.CloseParen 3 ∷ paired k.OpenBrace 6 ∷ paired k.CloseBrace 5 ∷ []) ≡ gives (node
    Module 0 7 (cons nil (cons (turn (cons (node ExportDefaultFunction 0 7 (mark 0 (mark 1 (cons (node Function 2
    7 (mark 2 (cons nil (cons nil (cons (node Signature 3 5 (mark 3 (cons (node Parameters 4 4 (cons nil (cons nil
    nil))) (mark 4 nil)))) (cons (node Block 5 7 (mark 5 (cons nil (mark 6 nil)))) nil)))))) nil)))) nil) nil)
    nil))) 7)
    -- export const a = b
    × (read_program lang.Es mode.Module (one k.ExportWord ∷ one k.ConstWord ∷ one k.Name ∷ one k.Equal ∷ one k.Name ∷
    []) ≡ gives (node Module 0 5 (cons nil (cons (turn (cons (node ExportDeclaration 0 5 (mark 0 (cons (node
    VariableDeclaration 1 5 (cons (node Variables 1 5 (cons (leaf as_kind 1) (cons (node Declarator 2 5 (cons
    (node NamePattern 2 3 (cons (leaf as_name 2) nil)) (mark 3 (cons (node Name 4 5 (cons (leaf as_name 4) nil))
    nil)))) (cons nil nil)))) (cons nil nil))) nil))) nil) nil) nil))) 5)
    -- import ( a )
    × (read_program lang.Es mode.Module (one k.ImportWord ∷ paired k.OpenParen 3 ∷ one k.Name ∷ paired k.CloseParen 1
    ∷ []) ≡ gives (node Module 0 4 (cons nil (cons (turn (cons (node ExpressionStatement 0 4 (cons (node
    ImportCall 0 4 (mark 0 (mark 1 (cons (node Name 2 3 (cons (leaf as_name 2) nil)) (cons nil (cons nil (mark 3
    nil))))))) (cons nil nil))) nil) nil) nil))) 4)
    -- import . meta
    × (read_program lang.Es mode.Module (one k.ImportWord ∷ one k.Dot ∷ one k.MetaWord ∷ []) ≡ gives (node Module 0 3
    (cons nil (cons (turn (cons (node ExpressionStatement 0 3 (cons (node ImportMeta 0 3 (mark 0 (mark 1 (mark 2
    nil)))) (cons nil nil))) nil) nil) nil))) 3)
    -- import source a from "b"
    × (read_program lang.Es mode.Module (one k.ImportWord ∷ one k.SourceWord ∷ one k.Name ∷ one k.FromWord ∷ one
    k.Str ∷ []) ≡ gives (node Module 0 5 (cons nil (cons (turn (cons (node SourceImport 0 5 (mark 0 (mark 1 (cons
    (leaf as_name 2) (mark 3 (cons (leaf as_str 4) (cons nil (cons nil nil)))))))) nil) nil) nil))) 5)
    -- import source from "a"
    × (read_program lang.Es mode.Module (one k.ImportWord ∷ one k.SourceWord ∷ one k.FromWord ∷ one k.Str ∷ []) ≡
    gives (node Module 0 4 (cons nil (cons (turn (cons (node FromImport 0 4 (mark 0 (cons nil (cons (node
    DefaultClause 1 2 (cons (leaf as_name 1) nil)) (mark 2 (cons (leaf as_str 3) (cons nil (cons nil nil))))))))
    nil) nil) nil))) 4)
    -- import source from from "a"
    × (read_program lang.Es mode.Module (one k.ImportWord ∷ one k.SourceWord ∷ one k.FromWord ∷ one k.FromWord ∷ one
    k.Str ∷ []) ≡ gives (node Module 0 5 (cons nil (cons (turn (cons (node SourceImport 0 5 (mark 0 (mark 1 (cons
    (leaf as_name 2) (mark 3 (cons (leaf as_str 4) (cons nil (cons nil nil)))))))) nil) nil) nil))) 5)
    -- import defer * as a from "b"
    × (read_program lang.Es mode.Module (one k.ImportWord ∷ one k.DeferWord ∷ one k.Star ∷ one k.AsWord ∷ one k.Name
    ∷ one k.FromWord ∷ one k.Str ∷ []) ≡ gives (node Module 0 7 (cons nil (cons (turn (cons (node DeferImport 0 7
    (mark 0 (mark 1 (mark 2 (mark 3 (cons (leaf as_name 4) (mark 5 (cons (leaf as_str 6) (cons nil (cons nil
    nil)))))))))) nil) nil) nil))) 7)
    -- import defer from "a"
    × (read_program lang.Es mode.Module (one k.ImportWord ∷ one k.DeferWord ∷ one k.FromWord ∷ one k.Str ∷ []) ≡
    gives (node Module 0 4 (cons nil (cons (turn (cons (node FromImport 0 4 (mark 0 (cons nil (cons (node
    DefaultClause 1 2 (cons (leaf as_name 1) nil)) (mark 2 (cons (leaf as_str 3) (cons nil (cons nil nil))))))))
    nil) nil) nil))) 4)
    -- import . source ( a )
    × (read_program lang.Es mode.Module (one k.ImportWord ∷ one k.Dot ∷ one k.SourceWord ∷ paired k.OpenParen 5 ∷
    one k.Name ∷ paired k.CloseParen 3 ∷ []) ≡ gives (node Module 0 6 (cons nil (cons (turn (cons (node
    ExpressionStatement 0 6 (cons (node SourceCall 0 6 (mark 0 (mark 1 (mark 2 (mark 3 (cons (node Name 4 5 (cons
    (leaf as_name 4) nil)) (cons nil (cons nil (mark 5 nil))))))))) (cons nil nil))) nil) nil) nil))) 6)
    -- import . defer ( a , b )
    × (read_program lang.Es mode.Module (one k.ImportWord ∷ one k.Dot ∷ one k.DeferWord ∷ paired k.OpenParen 7 ∷ one
    k.Name ∷ one k.Comma ∷ one k.Name ∷ paired k.CloseParen 3 ∷ []) ≡ gives (node Module 0 8 (cons nil (cons (turn
    (cons (node ExpressionStatement 0 8 (cons (node DeferCall 0 8 (mark 0 (mark 1 (mark 2 (mark 3 (cons (node Name 4
    5 (cons (leaf as_name 4) nil)) (cons (mark 5 (cons (node Name 6 7 (cons (leaf as_name 6) nil)) nil)) (cons nil
    (mark 7 nil))))))))) (cons nil nil))) nil) nil) nil))) 8)
    -- nothing
    × (read_program lang.Es mode.Module ([]) ≡ gives (node Module 0 0 (cons nil (cons nil nil))) 0)
unfolding programs_on_keys
items = (
  refl,
  refl,
  refl,
  refl,
  refl,
  refl,
  refl,
  refl,
  refl,
  refl,
  refl,
  refl,
  refl,
  refl,
  refl,
  refl,
  refl,
  refl,
)
