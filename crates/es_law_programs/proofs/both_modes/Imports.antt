-- No statement begins with `import` before a token that is neither `(` nor `.`: what begins so is an import.
use Rattle.std.specs.Prelude.{List, Option, Some, None, Bool, true, false, not, ◌||◌}
use Rattle.std.proofs.Common.{◌≡◌, ℕ, zero, suc, ◌+◌, refl, subst}
use denote.Enum.Bare.{same_true}
use Rattle.es_token.specs.declared.token.TokenKind.{TokenKind}
use Rattle.es_token.specs.declared.token.TokenKind.TheVariants as k
use Rattle.es_token.specs.contracts.token.TokenKind.{the_type}
use Rattle.grammar_theory.specs.declared.error.Lang.{Lang}
use Rattle.grammar_theory.specs.declared.error.Lang.TheVariants as lang
use Rattle.grammar_theory.specs.Key.{Key, Seen, seen, has_kind, is}
use Rattle.grammar_theory.specs.Plain.{Plain}
use Rattle.grammar_theory.specs.Fits.{free, Under}
use Rattle.grammar_theory.proofs.OutLemmas.{clash}
use Rattle.grammar_theory.proofs.Progress.{both_hold}
use Rattle.es_grammar.specs.types.Words.{is_name, is_numeric}
use Rattle.es_grammar.specs.types.TypeNames.{type_parameters}
use Rattle.es_grammar.specs.types.TypeTable.{type_rule}
use Rattle.es_grammar.specs.declared.types.rows.TypeRow.TheVariants as types
use Rattle.es_grammar.specs.types.Expressions.{is_prefix, is_update, is_literal_word}
use Rattle.es_grammar.specs.types.Statements.{is_variable_word}
use Rattle.es_grammar.specs.types.Items.{opens_import}
use Rattle.es_grammar.specs.declared.rows.Context.{Context}
use Rattle.es_grammar.specs.declared.rows.Row.{Row}
use Rattle.es_grammar.specs.declared.rows.Row.TheVariants.{StatementRow, VariablesRow, UsingRow, PatternRow, ExpressionRow, TypesRow}
use Rattle.es_grammar.specs.declared.rows.NodeKind.{NodeKind}
use Rattle.es_grammar.specs.Expressions.{arrow_in, parameters_arrow_in, plain_arrow, async_arrow, template, function, async_function, class_form, class_, abstract_class, array_literal, object_literal, name_expression, named_primary, primary, import_arguments, import_call, source_call, defer_call, import_meta, import_base, imported, base, chain, update, prefix, await_, type_assertion, power, level, product, sum, shifted, shift, private_in, relation, equality, bit_and, bit_xor, bit_or, and_, coalesce, binary, conditional, yield_, assignment, expression}
use Rattle.es_grammar.specs.Embedding.{type_parameters_in}
use Rattle.es_grammar.specs.Functions.{array_pattern, object_pattern, bracket_pattern, pattern}
use Rattle.es_grammar.specs.Statements.{condition_in, block, variables, using_in, using_, for_, for_each, for_await, return_, switch_, try_, expression_statement, keyword_statement, other_statement}
use Rattle.es_grammar.specs.Declarations.{interface, alias, enum_, is_namespace_word, namespace, module_namespace, global, typed_declaration, declare, plain_declaration, declaration, statement}
use Rattle.es_grammar.specs.Table.{rule}
use Rattle.es_law_programs.proofs.both_modes.Begins.{row_may, is_neither, rule_may, Opens, rule_begins}

-- ---- the rows that a statement may begin with

statement_may : (l : Lang) (c : Context) → rule_may (rule l (StatementRow c)) ≡ true → ⊥
unfolding rule statement block keyword_statement condition_in for_ for_each for_await return_ switch_ try_ declaration
    plain_declaration function async_function class_ class_form abstract_class enum_ declare typed_declaration interface
    alias is_namespace_word namespace module_namespace global other_statement expression_statement is_name
statement_may lang.Es c h = clash h
statement_may lang.Jsx c h = clash h
statement_may lang.Typescript c h = clash h
statement_may lang.Tsx c h = clash h
statement_may lang.Wide c h = clash h

variables_may : (l : Lang) (c : Context) → rule_may (rule l (VariablesRow c)) ≡ true → ⊥
unfolding rule variables is_variable_word
variables_may l c h = clash h

using_may : (l : Lang) (c : Context) → rule_may (rule l (UsingRow c)) ≡ true → ⊥
unfolding rule using_ using_in
using_may l c h = clash h

pattern_may : (l : Lang) (c : Context) → rule_may (rule l (PatternRow true c)) ≡ true → ⊥
unfolding rule pattern bracket_pattern array_pattern object_pattern
pattern_may l c h = clash h

expression_may : (l : Lang) (c : Context) → rule_may (rule l (ExpressionRow c)) ≡ true → ⊥
unfolding rule expression assignment plain_arrow async_arrow arrow_in parameters_arrow_in yield_ conditional binary and_
    coalesce bit_or bit_xor bit_and equality relation shifted shift private_in sum product power level update prefix
    await_ type_assertion chain base imported import_base source_call defer_call import_call import_arguments import_meta primary
    array_literal object_literal function async_function class_ class_form named_primary abstract_class name_expression
    template type_parameters_in is_name is_numeric is_prefix is_update is_literal_word
expression_may lang.Es c h = clash h
expression_may lang.Jsx c h = clash h
expression_may lang.Typescript c h = clash h
expression_may lang.Tsx c h = clash h
expression_may lang.Wide c h = clash h

parameters_may : (l : Lang) → rule_may (rule l (TypesRow types.TypeParametersRow)) ≡ true → ⊥
unfolding rule type_rule type_parameters
parameters_may l h = clash h

-- a row that may begin so is none of these
row_begins : (l : Lang) (r : Row) → rule_may (rule l r) ≡ true → row_may r ≡ true
row_begins l (StatementRow c) h = absurd (statement_may l c h)
row_begins l (VariablesRow c) h = absurd (variables_may l c h)
row_begins l (UsingRow c) h = absurd (using_may l c h)
row_begins l (PatternRow true c) h = absurd (pattern_may l c h)
row_begins l (ExpressionRow c) h = absurd (expression_may l c h)
row_begins l (TypesRow types.TypeParametersRow) h = absurd (parameters_may l h)
row_begins l _ h = refl

under_begins : (l : Lang) (K : List Key) (room : ℕ) (r : Row) (p : Plain NodeKind) (from to : ℕ)
    → Under free K (rule l) room r p from to → Opens K from → row_may r ≡ true
unfolding Under
under_begins l K zero r p from to under opens = absurd under
under_begins l K (suc room) r p from to under opens =
    row_begins l r
    (rule_begins K (Under free K (rule l) room) (under_begins l K room) (rule l r) p from to under opens)

-- ---- where an import opens

-- a token of one kind
of_kind : (may : TokenKind → Bool) (kind : TokenKind) (x : Option Seen) → is kind x ≡ true → has_kind may x ≡ true
    → may kind ≡ true
of_kind may kind None here h = clash here
of_kind may kind (Some s) here h = subst (λ (x : TokenKind). may x ≡ true) (same_true the_type tt s.kind kind here) h

is_not : (a b : Bool) → not (a || b) ≡ true → (a ≡ false) × (b ≡ false)
is_not true b e = clash e
is_not false true e = clash e
is_not false false e = (refl, refl)

neither : (kind : TokenKind) (x : Option Seen) → not (is k.OpenParen x || is k.Dot x) ≡ true → is kind x ≡ true
    → is_neither kind ≡ true
neither kind None none here = clash here
neither kind (Some s) none here =
    subst (λ (x : TokenKind). is_neither x ≡ true) (same_true the_type tt s.kind kind here) none

opens_so : (K : List Key) (at : ℕ) → opens_import K at ≡ true → Opens K at
unfolding opens_import
opens_so K at e =
    let held = both_hold (is k.ImportWord (seen K at))
    (not (is k.OpenParen (seen K (at + 1)) || is k.Dot (seen K (at + 1)))) e in
    record {
      word = λ may h. of_kind may k.ImportWord (seen K at) held.0 h;
      behind = λ kind h. neither kind (seen K (at + 1)) held.1 h;
    }

-- no statement begins where an import opens
pub statement_opens_none : (l : Lang) (K : List Key) (room : ℕ) (c : Context) (p : Plain NodeKind) (from to : ℕ)
    → Under free K (rule l) room (StatementRow c) p from to → opens_import K from ≡ false
statement_opens_none l K room c p from to under = go (opens_import K from) refl
  where
    go : (b : Bool) → opens_import K from ≡ b → opens_import K from ≡ false
    go true e = clash (under_begins l K room (StatementRow c) p from to under (opens_so K from e))
    go false e = e
