-- The levels of operators of the table, over the rule of any operand: `sum l c` is `arithmetic_over c (power l c)`, and so on.
use Rattle.std.specs.Prelude.{if◌then◌else◌}
use Rattle.es_token.specs.declared.token.TokenKind.TheVariants as k
use Rattle.grammar_theory.specs.declared.error.Lang.{Lang}
use Rattle.grammar_theory.specs.Languages.{typed}
use Rattle.grammar_theory.specs.Key.{seen, is}
use Rattle.grammar_theory.specs.Productions.{as_kind, as_there, greedy, by_predicate, done, tok, punct, row, opt, alt, when_, Production, choose, wrap}
use Rattle.es_grammar.specs.types.Words.{only, is_other}
use Rattle.es_grammar.specs.types.Expressions.{is_product, is_sum, is_equality, is_assignment, joins, no_mix, opens_assignment}
use Rattle.es_grammar.specs.declared.rows.Context.{Context}
use Rattle.es_grammar.specs.declared.rows.Row.{Row}
use Rattle.es_grammar.specs.declared.rows.Row.TheVariants.{AssignmentRow, AndRow, BitOrRow, BitXorRow, BitAndRow, EqualityRow, RelationRow, SumRow, ProductRow, PowerRow}
use Rattle.es_grammar.specs.declared.rows.NodeKind.{NodeKind}
use Rattle.es_grammar.specs.declared.rows.NodeKind.TheVariants.{Assignment, Binary, Conditional, TypedBinary}
use Rattle.es_grammar.specs.Rows.{without_colon}
use Rattle.es_grammar.specs.Embedding.{label_by}
use Rattle.es_grammar.specs.Expressions.{level, private_in, comparison_in, tight_in, asserted_or, opens_shift_in, opens_comparison}

abbrev Rules : Type 0
Rules = Production Row NodeKind

abbrev pub arithmetic_over : Context → Rules → Rules
arithmetic_over c a = level is_sum (ProductRow c) (level is_product (PowerRow c) a)

abbrev pub shift_over : Lang → Context → Rules → Rules
shift_over l c a =
    wrap Binary a (by_predicate (opens_shift_in l))
    (alt (is k.Greater)
    (tok as_kind (only k.Greater) (tok as_there (only k.Greater)
    (opt (by_predicate (joins k.Greater)) (tok as_there (only k.Greater) done) done)))
    (tok as_kind (only k.LessLess) done) (row (SumRow c) done))

-- a comparison, with this rule in the place of its first operand
abbrev pub related : Lang → Context → Rules → Rules
related l c a =
    wrap (label_by l Binary TypedBinary) a (by_predicate (opens_comparison l c))
    (if typed l then asserted_or (tight_in c) else comparison_in c)

abbrev pub relation_over : Lang → Context → Rules → Rules
relation_over l c a = related l c (choose (is k.PrivateName) (private_in c) a)

-- in TypeScript shifts behind a type
abbrev pub behind_types : Lang → Context → Rules → Rules
behind_types l c a = if typed l then shift_over l c a else a

abbrev pub comparing_over : Lang → Context → Rules → Rules
comparing_over l c a = level is_equality (RelationRow c) (behind_types l c (relation_over l c (shift_over l c a)))

abbrev pub bitwise_over : Context → Rules → Rules
bitwise_over c a =
    level (only k.Bar) (BitXorRow c) (level (only k.Caret) (BitAndRow c) (level (only k.Ampersand) (EqualityRow c) a))

abbrev pub coalesce_over : Context → Rules → Rules
coalesce_over c a =
    wrap Binary a (greedy (is k.QuestionQuestion))
    (tok as_kind (only k.QuestionQuestion) (row (BitOrRow c) (when_ no_mix done)))

abbrev pub logical_over : Context → Rules → Rules
logical_over c a =
    level (only k.BarBar) (AndRow c) (level (only k.AmpersandAmpersand) (BitOrRow c) (coalesce_over c a))

abbrev pub conditional_over : Lang → Context → Rules → Rules
conditional_over l c a =
    wrap Conditional a (greedy (is k.Question))
    (punct k.Question (row (AssignmentRow (without_colon l c)) (punct k.Colon (row (AssignmentRow c) (when_
    (is_other k.Question) done)))))

abbrev pub assignment_over : Context → Rules → Rules
assignment_over c a =
    wrap Assignment a (by_predicate opens_assignment)
    (alt (is k.Greater)
    (tok as_kind (only k.Greater) (tok as_there (only k.Greater)
    (opt (by_predicate (joins k.Greater)) (tok as_there (only k.Greater) done) (tok as_there (only k.Equal) done))))
    (tok as_kind is_assignment done) (row (AssignmentRow c) done))

abbrev pub operators_over : Lang → Context → Rules → Rules
operators_over l c a =
    assignment_over c (conditional_over l c (logical_over c (bitwise_over c (comparing_over l c (arithmetic_over c a)))))
