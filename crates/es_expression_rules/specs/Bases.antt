-- Alternatives of rows of the table that are read by functions of their own.
use Rattle.std.specs.Prelude.{true}
use Rattle.es_token.specs.declared.token.TokenKind.TheVariants as k
use Rattle.grammar_theory.specs.declared.error.Lang.{Lang}
use Rattle.grammar_theory.specs.Key.{is}
use Rattle.grammar_theory.specs.Productions.{as_kind, greedy, done, tok, punct, row, opt, Production, make, pick}
use Rattle.es_grammar.specs.types.Expressions.{is_update, opens_property}
use Rattle.es_grammar.specs.declared.rows.Context.{Context}
use Rattle.es_grammar.specs.declared.rows.Row.{Row}
use Rattle.es_grammar.specs.declared.rows.Row.TheVariants.{ArgumentsRow, AssignmentRow, CalleeRow, PatternRow, UnaryRow}
use Rattle.es_grammar.specs.declared.rows.NodeKind.{NodeKind}
use Rattle.es_grammar.specs.declared.rows.NodeKind.TheVariants.{New, NewTarget, PatternAssignment, TypedNew, UpdatePrefix}
use Rattle.es_grammar.specs.Rows.{outside}
use Rattle.es_grammar.specs.Embedding.{label_by, typed_in}
use Rattle.es_grammar.specs.Expressions.{new_arguments_in, opens_async_here, async_arrow, plain_arrow}

-- 'new' '.' 'target' | 'new' Chain1 (TS TArgs)? Args?
abbrev pub new_base : Lang → Context → Production Row NodeKind
new_base l c =
    pick opens_property (make NewTarget (punct k.NewWord (punct k.Dot (punct k.TargetWord done))))
    (make (label_by l New TypedNew) (punct k.NewWord (row (CalleeRow c) (typed_in l new_arguments_in
    (opt (greedy (is k.OpenParen)) (row (ArgumentsRow c) done) done)))))

-- ('++' | '--') Unary
abbrev pub update_prefix : Context → Production Row NodeKind
update_prefix c = make UpdatePrefix (tok as_kind is_update (row (UnaryRow c) done))

-- Arrow
abbrev pub any_arrow : Lang → Context → Production Row NodeKind
any_arrow l c = pick (opens_async_here l c) (async_arrow l c) (plain_arrow l c)

-- Pat '=' Assign, of a pattern in brackets
abbrev pub pattern_assignment : Context → Production Row NodeKind
pattern_assignment c =
    make PatternAssignment (row (PatternRow true (outside c)) (punct k.Equal (row (AssignmentRow c) done)))
