-- Programs with the numbers of their names, by computing: the tokens of a text, which stand one blank apart, its tree,
-- and for each name its token and its number. What is expected was worked by hand from the words of README.md.
use Rattle.std.specs.Prelude.{ℕ, ◌+◌, false, List, [], ◌∷◌, map, None, codes}
use Rattle.std.proofs.Common.{◌≡◌, refl}
use Rattle.es_token.specs.declared.token.Token.{Token}
use Rattle.es_token.specs.declared.token.TokenKind.{TokenKind}
use Rattle.es_token.specs.declared.token.TokenKind.TheVariants as k
use Rattle.es_grammar.specs.declared.rows.NodeKind.{NodeKind}
use Rattle.es_grammar.specs.declared.rows.NodeKind.TheVariants as l
use Rattle.es_lowering.specs.Texts.{ident_of}
use Rattle.es_scopes.specs.declared.steps.Place.TheVariants as vPlace
use Rattle.es_walk.specs.Part.{token, node, packed}
use Rattle.es_walk.specs.Walk.{found, own}
use Rattle.es_scopes.specs.Plan.{plan}
use Rattle.es_scopes.specs.Marks.{Parts, turn_plan, operand_plan, scopes}
use Rattle.es_scopes.specs.Numbers.{ids_in}

-- ---- tokens and trees, written short
abbrev Lengths : Type 0
Lengths = List (TokenKind × ℕ)

-- tokens of these lengths, each one blank behind the other
abbrev spaced : ℕ → Lengths → List Token
spaced start [] = []
spaced start (it ∷ others) =
    record { kind = it.0; range = record { start = start; end = start + it.1 }; line_before = false; partner = None }
    ∷ spaced (start + it.1 + 1) others

-- a tree, by what it is over the tokens
abbrev Shape : Type 0
Shape = List Token → Parts

abbrev each : List Shape → List Token → Parts
each shapes ts = packed (map (λ shape. shape ts) shapes)

abbrev leaf : ℕ → Shape
leaf at = λ ts. token at

-- a node over these parts
abbrev made : List Token → NodeKind → Parts → Parts
made ts label p = node label p (own (scopes ts false) label p)

abbrev branch : NodeKind → List Shape → Shape
branch label parts = λ ts. made ts label (each parts ts)

abbrev group : List Shape → Shape
group parts = each parts

-- a list of one part each
abbrev list : List Shape → Shape
list parts = group (map (λ part. group (part ∷ [])) parts)

abbrev name : ℕ → Shape
name at = branch l.Name (leaf at ∷ [])

abbrev pat : ℕ → Shape
pat at = branch l.NamePattern (leaf at ∷ [])

abbrev number : ℕ → Shape
number at = branch l.Number (leaf at ∷ [])

abbrev expr : Shape → Shape
expr e = branch l.ExpressionStatement (e ∷ group [] ∷ [])

abbrev block : List Shape → Shape
block stmts = branch l.Block (list stmts ∷ [])

-- one declarator behind a word
abbrev variable : ℕ → Shape → Shape
variable word declarator =
    branch l.VariableDeclaration (branch l.Variables (leaf word ∷ declarator ∷ group [] ∷ []) ∷ group [] ∷ [])

abbrev signature : List Shape → Shape
signature params =
    branch l.Signature (branch l.Parameters
    (group (map (λ param. group (param ∷ group [] ∷ [])) params) ∷ group [] ∷ []) ∷ [])

abbrev function_ : Shape → List Shape → List Shape → Shape
function_ own params stmts = branch l.Function (group [] ∷ own ∷ signature params ∷ block stmts ∷ [])

abbrev script : List Shape → Shape
script stmts = branch l.Script (group [] ∷ list stmts ∷ [])

abbrev module_ : List Shape → Shape
module_ items = branch l.Module (group [] ∷ list items ∷ [])

-- the numbers of the tree's names
unfoldable numbers : List ℕ → Lengths → Shape → List (ℕ × ℕ)
numbers x lengths shape = ids_in x (spaced 0 lengths) (found (shape (spaced 0 lengths)) vPlace.Binds)

functions :
    -- parameters and body are one scope, a further block another
    (numbers (codes "function f ( b ) { { let d = 1 ; } }")
    ((k.FunctionWord, 8) ∷ (k.Name, 1) ∷ (k.OpenParen, 1) ∷ (k.Name, 1) ∷ (k.CloseParen, 1) ∷ (k.OpenBrace, 1)
    ∷ (k.OpenBrace, 1) ∷ (k.LetWord, 3) ∷ (k.Name, 1) ∷ (k.Equal, 1) ∷ (k.Number, 1) ∷ (k.Semicolon, 1)
    ∷ (k.CloseBrace, 1) ∷ (k.CloseBrace, 1) ∷ [])
    (script (function_ (leaf 1) (pat 3 ∷ [])
    (block (variable 7 (branch l.Declarator (pat 8 ∷ number 10 ∷ [])) ∷ []) ∷ []) ∷ []))
    ≡ (1, 1) ∷ (3, 2) ∷ (8, 3) ∷ [])
    -- a default sees what the body declares: they are one scope
    × (numbers (codes "function f ( a = b ) { var b ; }")
    ((k.FunctionWord, 8) ∷ (k.Name, 1) ∷ (k.OpenParen, 1) ∷ (k.Name, 1) ∷ (k.Equal, 1) ∷ (k.Name, 1) ∷ (k.CloseParen, 1)
    ∷ (k.OpenBrace, 1) ∷ (k.VarWord, 3) ∷ (k.Name, 1) ∷ (k.Semicolon, 1) ∷ (k.CloseBrace, 1) ∷ [])
    (script (function_ (leaf 1) (branch l.DefaultParameter (pat 3 ∷ name 5 ∷ []) ∷ [])
    (variable 8 (pat 9) ∷ []) ∷ []))
    ≡ (1, 1) ∷ (3, 2) ∷ (5, 2) ∷ (9, 2) ∷ [])
    -- the name of a function expression is seen inside it alone
    × (numbers (codes "( function f ( ) { f } ) ; f")
    ((k.OpenParen, 1) ∷ (k.FunctionWord, 8) ∷ (k.Name, 1) ∷ (k.OpenParen, 1) ∷ (k.CloseParen, 1) ∷ (k.OpenBrace, 1)
    ∷ (k.Name, 1) ∷ (k.CloseBrace, 1) ∷ (k.CloseParen, 1) ∷ (k.Semicolon, 1) ∷ (k.Name, 1) ∷ [])
    (script (expr (branch l.Parenthesized
    (function_ (group (leaf 2 ∷ [])) [] (expr (name 6) ∷ []) ∷ [])) ∷ expr (name 10) ∷ []))
    ≡ (2, 2) ∷ (6, 2) ∷ (10, 0) ∷ [])
    -- an arrow's parameter, and its body
    × (numbers (codes "a => a ; a")
    ((k.Name, 1) ∷ (k.Arrow, 2) ∷ (k.Name, 1) ∷ (k.Semicolon, 1) ∷ (k.Name, 1) ∷ [])
    (script (expr (branch l.NameArrow (leaf 0 ∷ group (name 2 ∷ []) ∷ [])) ∷ expr (name 4) ∷ []))
    ≡ (0, 2) ∷ (2, 2) ∷ (4, 0) ∷ [])
unfolding numbers ids_in own plan turn_plan operand_plan ident_of
functions = (refl, refl, refl, refl)

blocks :
    -- the innermost scope that declares a name counts
    (numbers (codes "let a ; { let a ; a } a")
    ((k.LetWord, 3) ∷ (k.Name, 1) ∷ (k.Semicolon, 1) ∷ (k.OpenBrace, 1) ∷ (k.LetWord, 3) ∷ (k.Name, 1)
    ∷ (k.Semicolon, 1) ∷ (k.Name, 1) ∷ (k.CloseBrace, 1) ∷ (k.Name, 1) ∷ [])
    (script (variable 0 (pat 1) ∷ block (variable 4 (pat 5) ∷ expr (name 7) ∷ []) ∷ expr (name 9) ∷ []))
    ≡ (1, 1) ∷ (5, 2) ∷ (7, 2) ∷ (9, 1) ∷ [])
    -- `var` passes blocks by
    × (numbers (codes "{ var a ; } a")
    ((k.OpenBrace, 1) ∷ (k.VarWord, 3) ∷ (k.Name, 1) ∷ (k.Semicolon, 1) ∷ (k.CloseBrace, 1) ∷ (k.Name, 1) ∷ [])
    (script (block (variable 1 (pat 2) ∷ []) ∷ expr (name 5) ∷ []))
    ≡ (2, 1) ∷ (5, 1) ∷ [])
    -- a name is seen before it is declared, and a block's function only in it
    × (numbers (codes "{ f ; function f ( ) { } } f")
    ((k.OpenBrace, 1) ∷ (k.Name, 1) ∷ (k.Semicolon, 1) ∷ (k.FunctionWord, 8) ∷ (k.Name, 1) ∷ (k.OpenParen, 1)
    ∷ (k.CloseParen, 1) ∷ (k.OpenBrace, 1) ∷ (k.CloseBrace, 1) ∷ (k.CloseBrace, 1) ∷ (k.Name, 1) ∷ [])
    (script (block (expr (name 1) ∷ function_ (leaf 4) [] [] ∷ []) ∷ expr (name 10) ∷ []))
    ≡ (1, 2) ∷ (4, 2) ∷ (10, 0) ∷ [])
    -- a catch clause, and its block in it
    × (numbers (codes "try { } catch ( e ) { let e ; e } e")
    ((k.TryWord, 3) ∷ (k.OpenBrace, 1) ∷ (k.CloseBrace, 1) ∷ (k.CatchWord, 5) ∷ (k.OpenParen, 1) ∷ (k.Name, 1)
    ∷ (k.CloseParen, 1) ∷ (k.OpenBrace, 1) ∷ (k.LetWord, 3) ∷ (k.Name, 1) ∷ (k.Semicolon, 1) ∷ (k.Name, 1)
    ∷ (k.CloseBrace, 1) ∷ (k.Name, 1) ∷ [])
    (script (branch l.TryStatement
    (block [] ∷ group (group (pat 5 ∷ []) ∷ block (variable 8 (pat 9) ∷ expr (name 11) ∷ []) ∷ group [] ∷ []) ∷ [])
    ∷ expr (name 13) ∷ []))
    ≡ (5, 3) ∷ (9, 4) ∷ (11, 4) ∷ (13, 0) ∷ [])
    -- the whole `for`, what it goes over too
    × (numbers (codes "for ( let i of i ) i ; i")
    ((k.ForWord, 3) ∷ (k.OpenParen, 1) ∷ (k.LetWord, 3) ∷ (k.Name, 1) ∷ (k.OfWord, 2) ∷ (k.Name, 1) ∷ (k.CloseParen, 1)
    ∷ (k.Name, 1) ∷ (k.Semicolon, 1) ∷ (k.Name, 1) ∷ [])
    (script (branch l.ForEachStatement
    (branch l.VariableHead (leaf 2 ∷ pat 3 ∷ []) ∷ group (leaf 4 ∷ name 5 ∷ []) ∷ expr (name 7) ∷ [])
    ∷ expr (name 9) ∷ []))
    ≡ (3, 2) ∷ (5, 2) ∷ (7, 2) ∷ (9, 0) ∷ [])
    -- the body of a `switch`, not what is looked at
    × (numbers (codes "switch ( a ) { case a : let a ; }")
    ((k.SwitchWord, 6) ∷ (k.OpenParen, 1) ∷ (k.Name, 1) ∷ (k.CloseParen, 1) ∷ (k.OpenBrace, 1) ∷ (k.CaseWord, 4)
    ∷ (k.Name, 1) ∷ (k.Colon, 1) ∷ (k.LetWord, 3) ∷ (k.Name, 1) ∷ (k.Semicolon, 1) ∷ (k.CloseBrace, 1) ∷ [])
    (script (branch l.SwitchStatement
    (name 2 ∷ group (group (group (name 6 ∷ []) ∷ list (variable 8 (pat 9) ∷ []) ∷ []) ∷ []) ∷ []) ∷ []))
    ≡ (2, 0) ∷ (6, 2) ∷ (9, 2) ∷ [])
unfolding numbers ids_in own plan turn_plan operand_plan ident_of
blocks = (refl, refl, refl, refl, refl, refl)

names :
    -- names of properties have none, shorthands do
    (numbers (codes "var a ; a . b ; ( { a , c : a } )")
    ((k.VarWord, 3) ∷ (k.Name, 1) ∷ (k.Semicolon, 1) ∷ (k.Name, 1) ∷ (k.Dot, 1) ∷ (k.Name, 1) ∷ (k.Semicolon, 1)
    ∷ (k.OpenParen, 1) ∷ (k.OpenBrace, 1) ∷ (k.Name, 1) ∷ (k.Comma, 1) ∷ (k.Name, 1) ∷ (k.Colon, 1) ∷ (k.Name, 1)
    ∷ (k.CloseBrace, 1) ∷ (k.CloseParen, 1) ∷ [])
    (script (variable 0 (pat 1) ∷ expr (branch l.Chain (name 3 ∷ branch l.MemberPost (leaf 5 ∷ []) ∷ group [] ∷ []))
    ∷ expr (branch l.Parenthesized (branch l.ObjectLiteral
    (group (group (branch l.Shorthand (leaf 9 ∷ []) ∷ group [] ∷ [])
    ∷ group (branch l.KeyValue (branch l.WordKey (leaf 11 ∷ []) ∷ name 13 ∷ []) ∷ group [] ∷ []) ∷ []) ∷ []) ∷ []))
    ∷ []))
    ≡ (1, 1) ∷ (3, 1) ∷ (9, 1) ∷ (13, 1) ∷ [])
    -- what is imported is declared, what is exported is used; the names at the other side are neither
    × (numbers (codes "import { a as b } from 'c' ; export { b as d } ;")
    ((k.ImportWord, 6) ∷ (k.OpenBrace, 1) ∷ (k.Name, 1) ∷ (k.AsWord, 2) ∷ (k.Name, 1) ∷ (k.CloseBrace, 1)
    ∷ (k.FromWord, 4) ∷ (k.Str, 3) ∷ (k.Semicolon, 1) ∷ (k.ExportWord, 6) ∷ (k.OpenBrace, 1) ∷ (k.Name, 1)
    ∷ (k.AsWord, 2) ∷ (k.Name, 1) ∷ (k.CloseBrace, 1) ∷ (k.Semicolon, 1) ∷ [])
    (module_ (branch l.FromImport
    (group [] ∷ branch l.NamedImports
    (list (branch l.RenamedImport (group [] ∷ group (leaf 2 ∷ []) ∷ leaf 4 ∷ []) ∷ []) ∷ []) ∷ leaf 7 ∷ group []
    ∷ group [] ∷ [])
    ∷ branch l.ExportNames
    (group [] ∷ list (branch l.ExportedName (group [] ∷ group (leaf 11 ∷ []) ∷ group (group (leaf 13 ∷ []) ∷ []) ∷ [])
    ∷ [])
    ∷ group [] ∷ group [] ∷ []) ∷ []))
    ≡ (4, 1) ∷ (11, 1) ∷ [])
    -- a pattern that is assigned to declares nothing, one that is declared does
    × (numbers (codes "{ let { a } = b ; [ a , b ] = a ; }")
    ((k.OpenBrace, 1) ∷ (k.LetWord, 3) ∷ (k.OpenBrace, 1) ∷ (k.Name, 1) ∷ (k.CloseBrace, 1) ∷ (k.Equal, 1) ∷ (k.Name, 1)
    ∷ (k.Semicolon, 1) ∷ (k.OpenBracket, 1) ∷ (k.Name, 1) ∷ (k.Comma, 1) ∷ (k.Name, 1) ∷ (k.CloseBracket, 1)
    ∷ (k.Equal, 1) ∷ (k.Name, 1) ∷ (k.Semicolon, 1) ∷ (k.CloseBrace, 1) ∷ [])
    (script (block (variable 1 (branch l.Declarator
    (branch l.ObjectPattern (group (group (branch l.NameProperty (leaf 3 ∷ group [] ∷ []) ∷ group [] ∷ []) ∷ []) ∷ [])
    ∷ name 6 ∷ []))
    ∷ expr (branch l.PatternAssignment
    (branch l.ArrayPattern
    (group (group (group (name 9 ∷ group [] ∷ []) ∷ []) ∷ group (group (name 11 ∷ group [] ∷ []) ∷ []) ∷ []) ∷ [])
    ∷ name 14 ∷ [])) ∷ []) ∷ []))
    ≡ (3, 2) ∷ (6, 0) ∷ (9, 2) ∷ (11, 0) ∷ (14, 2) ∷ [])
    -- names in types are looked up; parameters of types declare nothing
    × (numbers (codes "type T < U > = V < U > | T")
    ((k.TypeWord, 4) ∷ (k.Name, 1) ∷ (k.Less, 1) ∷ (k.Name, 1) ∷ (k.Greater, 1) ∷ (k.Equal, 1) ∷ (k.Name, 1)
    ∷ (k.Less, 1) ∷ (k.Name, 1) ∷ (k.Greater, 1) ∷ (k.Bar, 1) ∷ (k.Name, 1) ∷ [])
    (module_ (branch l.AliasDeclaration
    (leaf 1 ∷ group (branch l.TypeParameters (group [] ∷ leaf 3 ∷ group [] ∷ group [] ∷ group [] ∷ group [] ∷ []) ∷ [])
    ∷ branch l.UnionType
    (branch l.Reference (branch l.EntityOfType (leaf 6 ∷ group [] ∷ [])
    ∷ branch l.TypeArguments (branch l.EntityOfType (leaf 8 ∷ group [] ∷ []) ∷ group [] ∷ []) ∷ [])
    ∷ branch l.EntityOfType (leaf 11 ∷ group [] ∷ []) ∷ group [] ∷ []) ∷ group [] ∷ []) ∷ []))
    ≡ (1, 1) ∷ (6, 0) ∷ (8, 0) ∷ (11, 1) ∷ [])
unfolding numbers ids_in own plan turn_plan operand_plan ident_of
names = (refl, refl, refl, refl)

classes :
    -- the name of a class expression is seen inside it alone; a method's scope begins behind its key
    (numbers (codes "( class A { [ b ] ( b ) { A } static { var b ; } } ) ; A")
    ((k.OpenParen, 1) ∷ (k.ClassWord, 5) ∷ (k.Name, 1) ∷ (k.OpenBrace, 1) ∷ (k.OpenBracket, 1) ∷ (k.Name, 1)
    ∷ (k.CloseBracket, 1) ∷ (k.OpenParen, 1) ∷ (k.Name, 1) ∷ (k.CloseParen, 1) ∷ (k.OpenBrace, 1) ∷ (k.Name, 1)
    ∷ (k.CloseBrace, 1) ∷ (k.StaticWord, 6) ∷ (k.OpenBrace, 1) ∷ (k.VarWord, 3) ∷ (k.Name, 1) ∷ (k.Semicolon, 1)
    ∷ (k.CloseBrace, 1) ∷ (k.CloseBrace, 1) ∷ (k.CloseParen, 1) ∷ (k.Semicolon, 1) ∷ (k.Name, 1) ∷ [])
    (script (expr (branch l.Parenthesized (branch l.Class
    (group (leaf 2 ∷ []) ∷ group [] ∷ list (branch l.MethodMember
    (group [] ∷ branch l.ComputedKey (name 5 ∷ []) ∷ signature (pat 8 ∷ []) ∷ block (expr (name 11) ∷ []) ∷ [])
    ∷ branch l.StaticBlock (block (variable 15 (pat 16) ∷ []) ∷ []) ∷ []) ∷ []) ∷ []))
    ∷ expr (name 22) ∷ []))
    ≡ (2, 2) ∷ (5, 0) ∷ (8, 3) ∷ (11, 2) ∷ (16, 4) ∷ (22, 0) ∷ [])
    -- a namespace declares its first name outside, and `var` inside
    × (numbers (codes "namespace N . M { var x ; } N . x")
    ((k.NamespaceWord, 9) ∷ (k.Name, 1) ∷ (k.Dot, 1) ∷ (k.Name, 1) ∷ (k.OpenBrace, 1) ∷ (k.VarWord, 3) ∷ (k.Name, 1)
    ∷ (k.Semicolon, 1) ∷ (k.CloseBrace, 1) ∷ (k.Name, 1) ∷ (k.Dot, 1) ∷ (k.Name, 1) ∷ [])
    (module_ (branch l.NamespaceDeclaration
    (leaf 0 ∷ branch l.Entity (leaf 1 ∷ list (leaf 3 ∷ []) ∷ []) ∷ list (variable 5 (pat 6) ∷ []) ∷ [])
    ∷ expr (branch l.Chain (name 9 ∷ branch l.MemberPost (leaf 11 ∷ []) ∷ group [] ∷ [])) ∷ []))
    ≡ (1, 1) ∷ (6, 2) ∷ (9, 1) ∷ [])
unfolding numbers ids_in own plan turn_plan operand_plan ident_of
classes = (refl, refl)
