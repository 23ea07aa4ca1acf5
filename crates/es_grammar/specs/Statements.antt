-- Statements and variables in both languages (ECMA-262, "ECMAScript Language: Statements and Declarations").
use Rattle.std.specs.Prelude.{◌+◌, ◌-◌, true, false, ◌&&◌, ◌||◌, if◌then◌else◌}
use Rattle.es_token.specs.declared.token.TokenKind.TheVariants as k
use Rattle.grammar_theory.specs.declared.error.Lang.{Lang}
use Rattle.grammar_theory.specs.Languages.{typed}
use Rattle.grammar_theory.specs.Key.{TokenTest, seen, has_kind, is}
use Rattle.grammar_theory.specs.Productions.{as_name, as_kind, as_there, by_lookahead, greedy, by_predicate, Predicate, Rhs, done, tok, punct, row, opt, many, alt, when_, where_, Production, make, choose, pick, wrap}
use Rattle.es_grammar.specs.types.Words.{only, is_name, is_near, is_other}
use Rattle.es_grammar.specs.types.Modules.{ended}
use Rattle.es_grammar.specs.types.Functions.{key_before}
use Rattle.es_grammar.specs.types.Statements.{is_variable_word, opens_using, opens_for, opens_for_await, opens_head_pattern, starts_using, starts_expression, label_ended, is_case, is_in_case, opens_label, begins_no_other}
use Rattle.es_grammar.specs.declared.rows.NodeKind.TheVariants.{Block, BreakStatement, ContinueStatement, DebuggerStatement, Declarator, DefaultPattern, DoStatement, ExpressionStatement, ForAwaitStatement, ForEachStatement, ForStatement, IfStatement, LabelledStatement, ReturnStatement, SwitchStatement, ThrowStatement, TryStatement, TypedDeclarator, TypedTryStatement, TypedVariableHead, Using, UsingHead, VariableHead, Variables, WhileStatement, WithStatement}
use Rattle.es_grammar.specs.declared.rows.Context.{Context}
use Rattle.es_grammar.specs.declared.rows.Row.{Row}
use Rattle.es_grammar.specs.declared.rows.NodeKind.{NodeKind}
use Rattle.es_grammar.specs.declared.rows.Row.TheVariants.{StatementRow, BlockRow, VariablesRow, DeclaratorRow, UsingRow, HeadRow, HeadPatternRow, PatternRow, ExpressionRow, AssignmentRow}
use Rattle.es_grammar.specs.Rows.{outside, in_head, without_colon}
use Rattle.es_grammar.specs.Embedding.{label_by, typed_in, annotation_in}
use Rattle.es_grammar.specs.Expressions.{begins_value, may_await, opens_non_null}
use Rattle.es_grammar.specs.Functions.{target, pattern}

-- '(' Expr ')', and what stands behind it
unfoldable pub condition_in : Context → Rhs Row → Rhs Row
condition_in c f = punct k.OpenParen (row (ExpressionRow c) (punct k.CloseParen f))

-- Block: '{' Stmt* '}'
unfoldable pub block : Context → Production Row NodeKind
block c =
    make Block (punct k.OpenBrace (many (by_lookahead (is_other k.CloseBrace)) (row (StatementRow c) done)
    (punct k.CloseBrace done)))

-- ---- variables

-- behind a pattern: `!` on its line, `:` or `=`
unfoldable pub is_declarator_mark : TokenTest
is_declarator_mark x = opens_non_null x || (is k.Colon x || is k.Equal x)

unfoldable pub opens_declarator : Predicate
opens_declarator K at = key_before is_declarator_mark K at

-- Pat (~ '!')? (':' Type)? ('=' Assign)?
abbrev pub typed_declarator : Lang → Context → Production Row NodeKind
typed_declarator l c =
    pick opens_declarator
    (make TypedDeclarator (row (PatternRow false (outside c))
    (opt (greedy opens_non_null) (when_ is_near (tok as_there (only k.Exclamation) done))
    (annotation_in (opt (greedy (is k.Equal)) (punct k.Equal (row (AssignmentRow c) done)) done)))))
    (pattern l false (outside c))

-- Pat ('=' Assign)?
abbrev pub plain_declarator : Lang → Context → Production Row NodeKind
plain_declarator l c =
    wrap Declarator (pattern l false (outside c)) (greedy (is k.Equal))
    (punct k.Equal (row (AssignmentRow c) (when_ (is_other k.Equal) done)))

-- Dtor: Pat (TS ~ '!')? (TS ':' Type)? ('=' Assign)?, without a node of its own where it is a pattern alone
unfoldable pub declarator : Lang → Context → Production Row NodeKind
declarator l c = if typed l then typed_declarator l c else plain_declarator l c

-- Dtor (',' Dtor)*
unfoldable pub declarators : Context → Rhs Row
declarators c =
    row (DeclaratorRow c) (many (greedy (is k.Comma)) (punct k.Comma (row (DeclaratorRow c) done)) done)

-- Var: ('var' | 'let' | 'const') Dtor (',' Dtor)*
unfoldable pub variables : Context → Production Row NodeKind
variables c = make Variables (tok as_kind is_variable_word (declarators c))

-- ('await' ~)? 'using' ~, and what stands behind it
unfoldable pub using_in : Context → Rhs Row → Rhs Row
using_in c f =
    opt (greedy (is k.AwaitWord)) (where_ (may_await c) (tok as_there (only k.AwaitWord) (when_ is_near done)))
    (punct k.UsingWord (when_ is_near f))

-- Using: ('await' ~)? 'using' ~ Dtor (',' Dtor)*
unfoldable pub using_ : Context → Production Row NodeKind
using_ c = make Using (using_in c (declarators c))

-- ---- loops

-- in scripts
unfoldable pub is_script : Context → Predicate
is_script c K at = c.script

-- `var` before a name and `=`: an initial value in the head of a `for` with `in` (ECMA-262, "Initializers in ForIn
-- Statement Heads")
unfoldable pub opens_initial : Predicate
opens_initial K at = is k.VarWord (seen K (at - 1)) && (has_kind is_name (seen K at) && is k.Equal (seen K (at + 1)))

-- Pat | in scripts, behind 'var': Name '=' Assign, before `in`
unfoldable pub head_pattern : Lang → Context → Production Row NodeKind
head_pattern l c =
    pick opens_initial
    (make DefaultPattern (where_ (is_script c) (row (PatternRow false c) (punct k.Equal (row (AssignmentRow (in_head c))
    (when_ (is k.InWord) done))))))
    (pattern l false c)

-- such a pattern; TS: Pat (':' Type)?
unfoldable pub head_pattern_in : Lang → Context → Rhs Row
head_pattern_in l c =
    if typed l then row (PatternRow false c) (annotation_in done) else row (HeadPatternRow c) done

-- Head: ('var' | 'let' | 'const') (Pat (TS ':' Type)? | 'var' Name '=' Assign) | ('await' ~)? 'using' ~ Name | Target
unfoldable pub head : Lang → Context → Production Row NodeKind
head l c =
    choose (has_kind is_variable_word)
    (make (label_by l VariableHead TypedVariableHead)
    (tok as_kind is_variable_word (head_pattern_in l c)))
    (pick opens_using (make UsingHead (using_in c (tok as_name is_name done)))
    (pick opens_head_pattern (pattern l true c) (target l (in_head c))))

-- (Var | Using | Expr)?, where `in` is no operator, and what stands behind it
unfoldable pub start_in : Context → Rhs Row → Rhs Row
start_in c f =
    opt (greedy (has_kind is_variable_word)) (row (VariablesRow (in_head c)) done)
    (opt (by_predicate starts_using) (row (UsingRow (in_head c)) done)
    (opt (by_predicate starts_expression) (row (ExpressionRow (in_head c)) done) f))

-- 'for' '(' (Var | Using | Expr)? ';' Expr? ';' Expr? ')' Stmt
unfoldable pub for_ : Context → Production Row NodeKind
for_ c =
    make ForStatement (punct k.ForWord (punct k.OpenParen (start_in c (punct k.Semicolon
    (opt (greedy (is_other k.Semicolon)) (row (ExpressionRow c) done) (punct k.Semicolon
    (opt (greedy (is_other k.CloseParen)) (row (ExpressionRow c) done) (punct k.CloseParen (row
    (StatementRow c) done)))))))))

-- 'for' '(' Head ('in' Expr | 'of' Assign) ')' Stmt
unfoldable pub for_each : Context → Production Row NodeKind
for_each c =
    make ForEachStatement (punct k.ForWord (punct k.OpenParen (row (HeadRow c)
    (alt (is k.InWord) (tok as_kind (only k.InWord) (row (ExpressionRow c) done))
    (tok as_kind (only k.OfWord) (row (AssignmentRow c) done))
    (punct k.CloseParen (row (StatementRow c) done))))))

-- 'for' 'await' '(' Head 'of' Assign ')' Stmt
unfoldable pub for_await : Context → Production Row NodeKind
for_await c =
    make ForAwaitStatement (punct k.ForWord (where_ (may_await c) (punct k.AwaitWord (punct k.OpenParen
    (row (HeadRow c)
    (punct k.OfWord (row (AssignmentRow c) (punct k.CloseParen (row (StatementRow c) done)))))))))

-- ---- statements

abbrev pub begins_value_here : Lang → TokenTest
begins_value_here l x = is_near x && begins_value l x

-- 'return' (~ Expr)? END
unfoldable pub return_ : Lang → Context → Production Row NodeKind
return_ l c =
    make ReturnStatement (punct k.ReturnWord (alt (begins_value_here l) (when_ is_near (row
    (ExpressionRow c) ended)) ended done))

-- ('case' Expr | 'default') ':' Stmt*
unfoldable pub case_in : Lang → Context → Rhs Row
case_in l c =
    alt (is k.CaseWord) (punct k.CaseWord (row (ExpressionRow (without_colon l c)) done)) (punct k.DefaultWord done)
    (punct k.Colon (many (by_lookahead is_in_case) (row (StatementRow c) done) done))

-- 'switch' '(' Expr ')' '{' .. '}'
unfoldable pub switch_ : Lang → Context → Production Row NodeKind
switch_ l c =
    make SwitchStatement (punct k.SwitchWord (condition_in c (punct k.OpenBrace
    (many (by_lookahead is_case) (case_in l c) (punct k.CloseBrace done)))))

-- 'finally' Block
unfoldable pub finally_in : Context → Rhs Row
finally_in c = punct k.FinallyWord (row (BlockRow c) done)

-- 'try' Block ('catch' ('(' Pat (TS ':' Type)? ')')? Block)? ('finally' Block)?, with one of the two at least
unfoldable pub try_ : Lang → Context → Production Row NodeKind
try_ l c =
    make (label_by l TryStatement TypedTryStatement) (punct k.TryWord (row (BlockRow c) (alt (is k.CatchWord)
    (punct k.CatchWord (opt (greedy (is k.OpenParen)) (punct k.OpenParen (row (PatternRow false c)
    (typed_in l annotation_in (punct k.CloseParen done))))
    (row (BlockRow c) (opt (greedy (is k.FinallyWord)) (finally_in c) done)))) (finally_in c) done)))

-- Expr END
unfoldable pub expression_statement : Context → Production Row NodeKind
expression_statement c =
    make ExpressionStatement (when_ begins_no_other (row (ExpressionRow c) ended))

-- the statements that begin with a keyword of their own
unfoldable pub keyword_statement : Lang → Context → Production Row NodeKind → Production Row NodeKind
keyword_statement l c other =
    choose (is k.IfWord)
    (make IfStatement (punct k.IfWord (condition_in c (row (StatementRow c)
    (opt (greedy (is k.ElseWord)) (punct k.ElseWord (row (StatementRow c) done)) done)))))
    (choose (is k.ForWord) (pick opens_for_await (for_await c) (pick opens_for (for_ c) (for_each c)))
    (choose (is k.WhileWord)
    (make WhileStatement (punct k.WhileWord (condition_in c (row (StatementRow c) done))))
    (choose (is k.DoWord)
    (make DoStatement (punct k.DoWord (row (StatementRow c) (punct k.WhileWord (condition_in c
    (opt (greedy (is k.Semicolon)) (punct k.Semicolon done) done))))))
    (choose (is k.ContinueWord) (make ContinueStatement (punct k.ContinueWord label_ended))
    (choose (is k.BreakWord) (make BreakStatement (punct k.BreakWord label_ended))
    (choose (is k.ReturnWord) (return_ l c)
    (choose (is k.ThrowWord) (make ThrowStatement (punct k.ThrowWord (when_ is_near (row
    (ExpressionRow c) ended))))
    (choose (is k.SwitchWord) (switch_ l c)
    (choose (is k.TryWord) (try_ l c)
    (choose (is k.DebuggerWord) (make DebuggerStatement (punct k.DebuggerWord ended))
    (choose (is k.WithWord)
    (make WithStatement (punct k.WithWord (where_ (is_script c) (condition_in c (row
    (StatementRow c) done))))) other)))))))))))

-- what is left of Stmt: Name ':' Stmt | Expr END
unfoldable pub other_statement : Context → Production Row NodeKind
other_statement c =
    pick opens_label (make LabelledStatement (tok as_name is_name (punct k.Colon (row (StatementRow c) done))))
    (expression_statement c)
