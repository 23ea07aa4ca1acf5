-- Programs with what they declare, by computing: the tokens of a text, which stand one blank apart, the numbers of its
-- names, its tree, and its declarations in the order of the walk. What is expected was worked by hand from the words of
-- README.md.
use Rattle.std.specs.Prelude.{ℕ, ◌+◌, false, List, [], ◌∷◌, map, None, codes}
use Rattle.std.proofs.Common.{◌≡◌, refl}
use Rattle.es_token.specs.declared.token.Token.{Token}
use Rattle.es_token.specs.declared.token.TokenKind.{TokenKind}
use Rattle.es_token.specs.declared.token.TokenKind.TheVariants as k
use Rattle.es_grammar.specs.declared.rows.NodeKind.{NodeKind}
use Rattle.es_grammar.specs.declared.rows.NodeKind.TheVariants as l
use Rattle.es_lowering.specs.Texts.{ident_of}
use Rattle.es_variables.specs.declared.scope_analysis.kinds.BindingKind.{BindingKind}
use Rattle.es_variables.specs.declared.scope_analysis.kinds.BindingKind.TheVariants as kind
use Rattle.es_variables.specs.declared.scope_analysis.kinds.ScopeKind.{ScopeKind}
use Rattle.es_variables.specs.declared.scope_analysis.kinds.ScopeKind.TheVariants as scope
use Rattle.es_variables.specs.declared.scope_analysis.steps.Visit.TheVariants as visit
use Rattle.es_walk.specs.Part.{token, node, packed}
use Rattle.es_walk.specs.Walk.{found, own}
use Rattle.es_variables.specs.scope_analysis.Plan.{plan}
use Rattle.es_variables.specs.scope_analysis.Events.{Parts, operand_plan, rules}
use Rattle.es_variables.specs.declared.scope_analysis.kinds.Id.{Id}
use Rattle.es_variables.specs.declared.scope_analysis.kinds.Var.{Var}
use Rattle.es_variables.specs.scope_analysis.Scope.{declarations, named}

-- ---- tokens and trees, written short
abbrev Lengths : Type 0
Lengths = List (TokenKind × ℕ)

-- tokens of these lengths, each one blank after the other
abbrev spaced : ℕ → Lengths → List Token
spaced start [] = []
spaced start (it ∷ others) =
    record { kind = it.0; range = record { start = start; end = start + it.1 }; line_before = false; partner = None }
    ∷ spaced (start + it.1 + 1) others

-- a tree, by what it is over a text and its tokens
abbrev Shape : Type 0
Shape = List ℕ → List Token → Parts

abbrev each : List Shape → List ℕ → List Token → Parts
each shapes x ts = packed (map (λ shape. shape x ts) shapes)

abbrev leaf : ℕ → Shape
leaf at = λ x ts. token at

-- a node over these parts
abbrev made : List ℕ → List Token → NodeKind → Parts → Parts
made x ts label p = node label p (own (rules x ts) label p)

abbrev branch : NodeKind → List Shape → Shape
branch label parts = λ x ts. made x ts label (each parts x ts)

abbrev group : List Shape → Shape
group parts = each parts

-- a list of one part each
abbrev list : List Shape → Shape
list parts = group (map (λ part. group (part ∷ [])) parts)

abbrev name : ℕ → Shape
name at = branch l.Name (leaf at ∷ [])

abbrev pat : ℕ → Shape
pat at = branch l.NamePattern (leaf at ∷ [])

abbrev number : ℕ → Shape
number at = branch l.Number (leaf at ∷ [])

abbrev expr : Shape → Shape
expr e = branch l.ExpressionStatement (e ∷ group [] ∷ [])

abbrev block : List Shape → Shape
block stmts = branch l.Block (list stmts ∷ [])

-- one declarator after a word
abbrev variable : ℕ → Shape → Shape
variable word declarator =
    branch l.VariableDeclaration (branch l.Variables (leaf word ∷ declarator ∷ group [] ∷ []) ∷ group [] ∷ [])

abbrev given_ : ℕ → Shape → Shape
given_ at value = branch l.Declarator (pat at ∷ value ∷ [])

abbrev signature : List Shape → Shape
signature params =
    branch l.Signature (branch l.Parameters
    (group (map (λ param. group (param ∷ group [] ∷ [])) params) ∷ group [] ∷ []) ∷ [])

abbrev function_ : Shape → List Shape → List Shape → Shape
function_ own params stmts = branch l.Function (group [] ∷ own ∷ signature params ∷ block stmts ∷ [])

abbrev script : List Shape → Shape
script stmts = branch l.Script (group [] ∷ list stmts ∷ [])

abbrev module_ : List Shape → Shape
module_ items = branch l.Module (group [] ∷ list items ∷ [])

-- ---- what is expected
-- a name with its number, how it is bound, and what stands around it
abbrev one : List ℕ → ℕ → BindingKind → List ScopeKind → Id × Var
one sym ctxt kind path = (record { sym = sym; ctxt = ctxt }, record { path = path; kind = kind })

-- the declarations of the tree, by the numbers of its names
unfoldable declares : List ℕ → Lengths → List (ℕ × ℕ) → Shape → List (Id × Var)
declares x lengths numbers shape =
    named x (spaced 0 lengths) numbers (declarations [] (found (shape x (spaced 0 lengths)) visit.Walks))

functions :
    -- parameters, and a block in a body
    (declares (codes "function f ( b ) { { let d = 1 ; } }")
    ((k.FunctionWord, 8) ∷ (k.Name, 1) ∷ (k.OpenParen, 1) ∷ (k.Name, 1) ∷ (k.CloseParen, 1) ∷ (k.OpenBrace, 1)
    ∷ (k.OpenBrace, 1) ∷ (k.LetWord, 3) ∷ (k.Name, 1) ∷ (k.Equal, 1) ∷ (k.Number, 1) ∷ (k.Semicolon, 1)
    ∷ (k.CloseBrace, 1) ∷ (k.CloseBrace, 1) ∷ []) ((1, 1) ∷ (3, 2) ∷ (8, 3) ∷ [])
    (script (function_ (leaf 1) (pat 3 ∷ []) (block (variable 7 (given_ 8 (number 10)) ∷ []) ∷ []) ∷ []))
    ≡ one (codes "f") 1 kind.Function [] ∷ one (codes "b") 2 kind.Param (scope.Function ∷ [])
    ∷ one (codes "d") 3 kind.Let (scope.Function ∷ scope.Block ∷ []) ∷ [])
    -- an arrow's default is walked, a function's isn't
    × (declares (codes "( a = b => c ) => d ; function f ( e = g => h ) { }")
    ((k.OpenParen, 1) ∷ (k.Name, 1) ∷ (k.Equal, 1) ∷ (k.Name, 1) ∷ (k.Arrow, 2) ∷ (k.Name, 1) ∷ (k.CloseParen, 1)
    ∷ (k.Arrow, 2) ∷ (k.Name, 1) ∷ (k.Semicolon, 1) ∷ (k.FunctionWord, 8) ∷ (k.Name, 1) ∷ (k.OpenParen, 1) ∷ (k.Name, 1)
    ∷ (k.Equal, 1) ∷ (k.Name, 1) ∷ (k.Arrow, 2) ∷ (k.Name, 1) ∷ (k.CloseParen, 1) ∷ (k.OpenBrace, 1)
    ∷ (k.CloseBrace, 1) ∷ [])
    ((1, 2) ∷ (3, 3) ∷ (5, 0) ∷ (8, 0) ∷ (11, 1) ∷ (13, 4) ∷ (15, 5) ∷ (17, 0) ∷ [])
    (script (expr (branch l.ParenthesizedArrow
    (branch l.Parameters (group (group (branch l.DefaultParameter
    (pat 1 ∷ branch l.NameArrow (leaf 3 ∷ group (name 5 ∷ []) ∷ []) ∷ []) ∷ group [] ∷ []) ∷ []) ∷ group [] ∷ [])
    ∷ group (name 8 ∷ []) ∷ []))
    ∷ function_ (leaf 11) (branch l.DefaultParameter
    (pat 13 ∷ branch l.NameArrow (leaf 15 ∷ group (name 17 ∷ []) ∷ []) ∷ []) ∷ []) [] ∷ []))
    ≡ one (codes "a") 2 kind.Param (scope.Arrow ∷ []) ∷ one (codes "b") 3 kind.Param (scope.Arrow ∷ scope.Arrow ∷ [])
    ∷ one (codes "f") 1 kind.Function [] ∷ one (codes "e") 4 kind.Param (scope.Function ∷ []) ∷ [])
unfolding declares own plan operand_plan ident_of
functions = (refl, refl)

statements :
    -- a name of two scopes; a catch clause and its block
    (declares (codes "function f ( b , c ) { { const c = 1 ; } } try { } catch ( e ) { const m = 1 ; }")
    ((k.FunctionWord, 8) ∷ (k.Name, 1) ∷ (k.OpenParen, 1) ∷ (k.Name, 1) ∷ (k.Comma, 1) ∷ (k.Name, 1) ∷ (k.CloseParen, 1)
    ∷ (k.OpenBrace, 1) ∷ (k.OpenBrace, 1) ∷ (k.ConstWord, 5) ∷ (k.Name, 1) ∷ (k.Equal, 1) ∷ (k.Number, 1)
    ∷ (k.Semicolon, 1) ∷ (k.CloseBrace, 1) ∷ (k.CloseBrace, 1) ∷ (k.TryWord, 3) ∷ (k.OpenBrace, 1) ∷ (k.CloseBrace, 1)
    ∷ (k.CatchWord, 5) ∷ (k.OpenParen, 1) ∷ (k.Name, 1) ∷ (k.CloseParen, 1) ∷ (k.OpenBrace, 1) ∷ (k.ConstWord, 5)
    ∷ (k.Name, 1) ∷ (k.Equal, 1) ∷ (k.Number, 1) ∷ (k.Semicolon, 1) ∷ (k.CloseBrace, 1) ∷ [])
    ((1, 1) ∷ (3, 2) ∷ (5, 2) ∷ (10, 3) ∷ (21, 5) ∷ (25, 6) ∷ [])
    (script (function_ (leaf 1) (pat 3 ∷ pat 5 ∷ []) (block (variable 9 (given_ 10 (number 12)) ∷ []) ∷ [])
    ∷ branch l.TryStatement
    (block [] ∷ group (group (pat 21 ∷ []) ∷ block (variable 24 (given_ 25 (number 27)) ∷ []) ∷ group [] ∷ []) ∷ [])
    ∷ []))
    ≡ one (codes "f") 1 kind.Function [] ∷ one (codes "b") 2 kind.Param (scope.Function ∷ [])
    ∷ one (codes "c") 2 kind.Param (scope.Function ∷ [])
    ∷ one (codes "c") 3 kind.Const (scope.Function ∷ scope.Block ∷ []) ∷ one (codes "e") 5 kind.CatchClause []
    ∷ one (codes "m") 6 kind.Const (scope.Catch ∷ scope.Block ∷ []) ∷ [])
    -- the test of `do` before its body
    × (declares (codes "do { var a ; } while ( b => b )")
    ((k.DoWord, 2) ∷ (k.OpenBrace, 1) ∷ (k.VarWord, 3) ∷ (k.Name, 1) ∷ (k.Semicolon, 1) ∷ (k.CloseBrace, 1)
    ∷ (k.WhileWord, 5) ∷ (k.OpenParen, 1) ∷ (k.Name, 1) ∷ (k.Arrow, 2) ∷ (k.Name, 1) ∷ (k.CloseParen, 1) ∷ [])
    ((3, 1) ∷ (8, 3) ∷ (10, 3) ∷ [])
    (script (branch l.DoStatement
    (block (variable 2 (pat 3) ∷ []) ∷ branch l.NameArrow (leaf 8 ∷ group (name 10 ∷ []) ∷ []) ∷ group [] ∷ []) ∷ []))
    ≡ one (codes "b") 3 kind.Param (scope.Arrow ∷ [])
    ∷ one (codes "a") 1 kind.Var (scope.Loop ∷ scope.Block ∷ []) ∷ [])
    -- `const` at the top
    × (declares (codes "const a = 1 ;")
    ((k.ConstWord, 5) ∷ (k.Name, 1) ∷ (k.Equal, 1) ∷ (k.Number, 1) ∷ (k.Semicolon, 1) ∷ []) ((1, 1) ∷ [])
    (script (variable 0 (given_ 1 (number 3)) ∷ []))
    ≡ one (codes "a") 1 kind.Const [] ∷ [])
unfolding declares own plan operand_plan ident_of
statements = (refl, refl, refl)

classes :
    -- a variable whose value is a class of the same name
    (declares (codes "let A = class A { } ; let B = class C { }")
    ((k.LetWord, 3) ∷ (k.Name, 1) ∷ (k.Equal, 1) ∷ (k.ClassWord, 5) ∷ (k.Name, 1) ∷ (k.OpenBrace, 1)
    ∷ (k.CloseBrace, 1) ∷ (k.Semicolon, 1) ∷ (k.LetWord, 3) ∷ (k.Name, 1) ∷ (k.Equal, 1) ∷ (k.ClassWord, 5)
    ∷ (k.Name, 1) ∷ (k.OpenBrace, 1) ∷ (k.CloseBrace, 1) ∷ []) ((1, 1) ∷ (4, 2) ∷ (9, 1) ∷ (12, 3) ∷ [])
    (script (variable 0 (given_ 1 (branch l.Class (group (leaf 4 ∷ []) ∷ group [] ∷ group [] ∷ [])))
    ∷ variable 8 (given_ 9 (branch l.Class (group (leaf 12 ∷ []) ∷ group [] ∷ group [] ∷ []))) ∷ []))
    ≡ one (codes "A") 2 kind.Class [] ∷ one (codes "A") 2 kind.Class [] ∷ one (codes "C") 3 kind.Class []
    ∷ one (codes "B") 1 kind.Let [] ∷ [])
    -- a constructor's body is a block, a method's isn't
    × (declares (codes "class A { constructor ( a ) { let b ; } m ( c ) { let d ; } }")
    ((k.ClassWord, 5) ∷ (k.Name, 1) ∷ (k.OpenBrace, 1) ∷ (k.ConstructorWord, 11) ∷ (k.OpenParen, 1) ∷ (k.Name, 1)
    ∷ (k.CloseParen, 1) ∷ (k.OpenBrace, 1) ∷ (k.LetWord, 3) ∷ (k.Name, 1) ∷ (k.Semicolon, 1) ∷ (k.CloseBrace, 1)
    ∷ (k.Name, 1) ∷ (k.OpenParen, 1) ∷ (k.Name, 1) ∷ (k.CloseParen, 1) ∷ (k.OpenBrace, 1) ∷ (k.LetWord, 3)
    ∷ (k.Name, 1) ∷ (k.Semicolon, 1) ∷ (k.CloseBrace, 1) ∷ (k.CloseBrace, 1) ∷ [])
    ((1, 1) ∷ (5, 2) ∷ (9, 2) ∷ (14, 3) ∷ (18, 3) ∷ [])
    (script (branch l.Class (leaf 1 ∷ group [] ∷ list
    (branch l.MethodMember
    (group [] ∷ branch l.WordKey (leaf 3 ∷ []) ∷ signature (pat 5 ∷ []) ∷ block (variable 8 (pat 9) ∷ []) ∷ [])
    ∷ branch l.MethodMember
    (group [] ∷ branch l.WordKey (leaf 12 ∷ []) ∷ signature (pat 14 ∷ []) ∷ block (variable 17 (pat 18) ∷ []) ∷ [])
    ∷ []) ∷ []) ∷ []))
    ≡ one (codes "A") 1 kind.Class [] ∷ one (codes "a") 2 kind.Param (scope.Class ∷ [])
    ∷ one (codes "b") 2 kind.Let (scope.Class ∷ scope.Block ∷ []) ∷ one (codes "c") 3 kind.Param (scope.Class ∷ [])
    ∷ one (codes "d") 3 kind.Let (scope.Class ∷ []) ∷ [])
    -- an object's accessor adds a block, and declares no parameter
    × (declares (codes "( { set x ( a ) { let b ; } } )")
    ((k.OpenParen, 1) ∷ (k.OpenBrace, 1) ∷ (k.SetWord, 3) ∷ (k.Name, 1) ∷ (k.OpenParen, 1) ∷ (k.Name, 1)
    ∷ (k.CloseParen, 1) ∷ (k.OpenBrace, 1) ∷ (k.LetWord, 3) ∷ (k.Name, 1) ∷ (k.Semicolon, 1) ∷ (k.CloseBrace, 1)
    ∷ (k.CloseBrace, 1) ∷ (k.CloseParen, 1) ∷ []) ((5, 2) ∷ (9, 2) ∷ [])
    (script (expr (branch l.Parenthesized (branch l.ObjectLiteral (group (group (branch l.AccessorProperty
    (leaf 2 ∷ branch l.WordKey (leaf 3 ∷ []) ∷ signature (pat 5 ∷ []) ∷ block (variable 8 (pat 9) ∷ []) ∷ [])
    ∷ group [] ∷ []) ∷ []) ∷ []) ∷ [])) ∷ []))
    ≡ one (codes "b") 2 kind.Let (scope.Block ∷ []) ∷ [])
unfolding declares own plan operand_plan ident_of
classes = (refl, refl, refl)

items :
    -- imports
    (declares (codes "import a , * as n from 'c'")
    ((k.ImportWord, 6) ∷ (k.Name, 1) ∷ (k.Comma, 1) ∷ (k.Star, 1) ∷ (k.AsWord, 2) ∷ (k.Name, 1) ∷ (k.FromWord, 4)
    ∷ (k.Str, 3) ∷ []) ((1, 1) ∷ (5, 1) ∷ [])
    (module_ (branch l.FromImport
    (group [] ∷ branch l.DefaultAndClause (leaf 1 ∷ branch l.Namespace (leaf 5 ∷ []) ∷ []) ∷ leaf 7 ∷ group []
    ∷ group [] ∷ []) ∷ []))
    ≡ one (codes "a") 1 kind.ValueImport [] ∷ one (codes "n") 1 kind.NamespaceImport [] ∷ [])
    -- an alias of a type
    × (declares (codes "type T = U")
    ((k.TypeWord, 4) ∷ (k.Name, 1) ∷ (k.Equal, 1) ∷ (k.Name, 1) ∷ []) ((1, 1) ∷ (3, 0) ∷ [])
    (module_ (branch l.AliasDeclaration
    (leaf 1 ∷ group [] ∷ branch l.EntityOfType (leaf 3 ∷ group [] ∷ []) ∷ group [] ∷ []) ∷ []))
    ≡ one (codes "T") 1 kind.TypeName [] ∷ [])
unfolding declares own plan operand_plan ident_of
items = (refl, refl)
