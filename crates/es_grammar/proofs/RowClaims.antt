-- What is claimed of the rows of programs is computed in each language, at each kind of token.
use Rattle.std.specs.Prelude.{true, false}
use Rattle.std.proofs.Common.{◌≡◌, refl}
use Rattle.grammar_theory.specs.Checks.{rule_takes, rule_parts_take}
use Rattle.grammar_theory.specs.Tells.{none, implies, rule_starts, rule_tells}
use Rattle.grammar_theory.proofs.EachKind.{holds_everywhere}
use Rattle.grammar_theory.proofs.OutLemmas.{clash}
use Rattle.es_grammar.specs.declared.rows.Context.{Context}
use Rattle.es_grammar.specs.declared.rows.Row.{Row}
use Rattle.es_grammar.specs.declared.rows.Row.TheVariants.{ModuleRow, ScriptRow, ItemRow, ClauseRow, NamedRow, ImportSpecifierRow, ExportSpecifierRow, AttributesRow, EntityRow, StatementRow, BlockRow, DeclarationRow, DeclaredRow, VariablesRow, DeclaratorRow, UsingRow, HeadRow, HeadPatternRow, SignatureRow, ParametersRow, ParameterRow, PatternRow, InnerPatternRow, PatternElementRow, PatternPropertyRow, FunctionRow, ClassRow, MemberRow, PropertyRow, KeyRow, ExpressionRow, AssignmentRow, AndRow, BitOrRow, BitXorRow, BitAndRow, EqualityRow, RelationRow, RightRow, ShiftRow, SumRow, ProductRow, PowerRow, UnaryRow, ChainRow, CalleeRow, PostRow, MemberPostRow, ArgumentsRow, ElementRow, TemplateRow, TypesRow}
use Rattle.es_grammar.specs.Rows.{in_module}
use Rattle.es_grammar.specs.Table.{rule}
use Rattle.es_grammar.proofs.Sets.{first, follow, solid, sets}
use Rattle.es_grammar.proofs.Languages.{in_each, each_holds}
use Rattle.es_grammar.proofs.TypesClaims as types
use Rattle.es_grammar.proofs.OnRows.{rules_on_rows}

-- the rows that are to take a token do, and so does each part that may be absent
pub rows_take : (r : Row) → solid r ≡ true → in_each (λ l. rule_takes solid (rule l r)) ≡ true
unfolding rules_on_rows holds_everywhere
rows_take ModuleRow h = clash h
rows_take ScriptRow h = clash h
rows_take (ItemRow c) h = refl
rows_take ClauseRow h = refl
rows_take NamedRow h = refl
rows_take ImportSpecifierRow h = refl
rows_take ExportSpecifierRow h = refl
rows_take AttributesRow h = refl
rows_take EntityRow h = refl
rows_take (StatementRow c) h = refl
rows_take (BlockRow c) h = refl
rows_take (DeclarationRow c) h = refl
rows_take (DeclaredRow c) h = refl
rows_take (VariablesRow c) h = refl
rows_take (DeclaratorRow c) h = refl
rows_take (UsingRow c) h = refl
rows_take (HeadRow c) h = refl
rows_take (HeadPatternRow c) h = refl
rows_take (SignatureRow c) h = refl
rows_take (ParametersRow c) h = clash h
rows_take (ParameterRow c) h = refl
rows_take (PatternRow true c) h = refl
rows_take (PatternRow false c) h = refl
rows_take (InnerPatternRow true c) h = refl
rows_take (InnerPatternRow false c) h = refl
rows_take (PatternElementRow true c) h = refl
rows_take (PatternElementRow false c) h = refl
rows_take (PatternPropertyRow true c) h = refl
rows_take (PatternPropertyRow false c) h = refl
rows_take (FunctionRow true c) h = refl
rows_take (FunctionRow false c) h = refl
rows_take (ClassRow true c) h = refl
rows_take (ClassRow false c) h = refl
rows_take (MemberRow c) h = refl
rows_take (PropertyRow c) h = refl
rows_take (KeyRow true c) h = refl
rows_take (KeyRow false c) h = refl
rows_take (ExpressionRow c) h = refl
rows_take (AssignmentRow c) h = refl
rows_take (AndRow c) h = refl
rows_take (BitOrRow c) h = refl
rows_take (BitXorRow c) h = refl
rows_take (BitAndRow c) h = refl
rows_take (EqualityRow c) h = refl
rows_take (RelationRow c) h = refl
rows_take (RightRow c) h = refl
rows_take (ShiftRow c) h = refl
rows_take (SumRow c) h = refl
rows_take (ProductRow c) h = refl
rows_take (PowerRow c) h = refl
rows_take (UnaryRow c) h = refl
rows_take (ChainRow c) h = refl
rows_take (CalleeRow c) h = refl
rows_take (PostRow c) h = refl
rows_take (MemberPostRow c) h = refl
rows_take (ArgumentsRow c) h = refl
rows_take (ElementRow c) h = refl
rows_take (TemplateRow c) h = refl
rows_take (TypesRow r) h = each_holds (λ l. rule_takes solid (rule l (TypesRow r))) (λ l. types.rows_take l r h)

pub parts_take : (r : Row) → in_each (λ l. rule_parts_take solid (rule l r)) ≡ true
unfolding rules_on_rows holds_everywhere
parts_take ModuleRow = refl
parts_take ScriptRow = refl
parts_take (ItemRow c) = refl
parts_take ClauseRow = refl
parts_take NamedRow = refl
parts_take ImportSpecifierRow = refl
parts_take ExportSpecifierRow = refl
parts_take AttributesRow = refl
parts_take EntityRow = refl
parts_take (StatementRow c) = refl
parts_take (BlockRow c) = refl
parts_take (DeclarationRow c) = refl
parts_take (DeclaredRow c) = refl
parts_take (VariablesRow c) = refl
parts_take (DeclaratorRow c) = refl
parts_take (UsingRow c) = refl
parts_take (HeadRow c) = refl
parts_take (HeadPatternRow c) = refl
parts_take (SignatureRow c) = refl
parts_take (ParametersRow c) = refl
parts_take (ParameterRow c) = refl
parts_take (PatternRow true c) = refl
parts_take (PatternRow false c) = refl
parts_take (InnerPatternRow true c) = refl
parts_take (InnerPatternRow false c) = refl
parts_take (PatternElementRow true c) = refl
parts_take (PatternElementRow false c) = refl
parts_take (PatternPropertyRow true c) = refl
parts_take (PatternPropertyRow false c) = refl
parts_take (FunctionRow true c) = refl
parts_take (FunctionRow false c) = refl
parts_take (ClassRow true c) = refl
parts_take (ClassRow false c) = refl
parts_take (MemberRow c) = refl
parts_take (PropertyRow c) = refl
parts_take (KeyRow true c) = refl
parts_take (KeyRow false c) = refl
parts_take (ExpressionRow c) = refl
parts_take (AssignmentRow c) = refl
parts_take (AndRow c) = refl
parts_take (BitOrRow c) = refl
parts_take (BitXorRow c) = refl
parts_take (BitAndRow c) = refl
parts_take (EqualityRow c) = refl
parts_take (RelationRow c) = refl
parts_take (RightRow c) = refl
parts_take (ShiftRow c) = refl
parts_take (SumRow c) = refl
parts_take (ProductRow c) = refl
parts_take (PowerRow c) = refl
parts_take (UnaryRow c) = refl
parts_take (ChainRow c) = refl
parts_take (CalleeRow c) = refl
parts_take (PostRow c) = refl
parts_take (MemberPostRow c) = refl
parts_take (ArgumentsRow c) = refl
parts_take (ElementRow c) = refl
parts_take (TemplateRow c) = refl
parts_take (TypesRow r) = each_holds (λ l. rule_parts_take solid (rule l (TypesRow r))) (λ l. types.parts_take l r)

-- what a row begins with
pub begins : (r : Row)
    → in_each (λ l. holds_everywhere (λ x. implies (rule_starts (sets l) (rule l r) none x) (first l r x))) ≡ true
unfolding rules_on_rows holds_everywhere
begins ModuleRow = refl
begins ScriptRow = refl
begins (ItemRow c) = refl
begins ClauseRow = refl
begins NamedRow = refl
begins ImportSpecifierRow = refl
begins ExportSpecifierRow = refl
begins AttributesRow = refl
begins EntityRow = refl
begins (StatementRow c) = refl
begins (BlockRow c) = refl
begins (DeclarationRow c) = refl
begins (DeclaredRow c) = refl
begins (VariablesRow c) = refl
begins (DeclaratorRow c) = refl
begins (UsingRow c) = refl
begins (HeadRow c) = refl
begins (HeadPatternRow c) = refl
begins (SignatureRow c) = refl
begins (ParametersRow c) = refl
begins (ParameterRow c) = refl
begins (PatternRow true c) = refl
begins (PatternRow false c) = refl
begins (InnerPatternRow true c) = refl
begins (InnerPatternRow false c) = refl
begins (PatternElementRow true c) = refl
begins (PatternElementRow false c) = refl
begins (PatternPropertyRow true c) = refl
begins (PatternPropertyRow false c) = refl
begins (FunctionRow true c) = refl
begins (FunctionRow false c) = refl
begins (ClassRow true c) = refl
begins (ClassRow false c) = refl
begins (MemberRow c) = refl
begins (PropertyRow c) = refl
begins (KeyRow true c) = refl
begins (KeyRow false c) = refl
begins (ExpressionRow c) = refl
begins (AssignmentRow c) = refl
begins (AndRow c) = refl
begins (BitOrRow c) = refl
begins (BitXorRow c) = refl
begins (BitAndRow c) = refl
begins (EqualityRow c) = refl
begins (RelationRow c) = refl
begins (RightRow c) = refl
begins (ShiftRow c) = refl
begins (SumRow c) = refl
begins (ProductRow c) = refl
begins (PowerRow c) = refl
begins (UnaryRow c) = refl
begins (ChainRow c) = refl
begins (CalleeRow c) = refl
begins (PostRow c) = refl
begins (MemberPostRow c) = refl
begins (ArgumentsRow c) = refl
begins (ElementRow c) = refl
begins (TemplateRow c) = refl
begins (TypesRow r) =
    each_holds (λ l. holds_everywhere (λ x. implies (rule_starts (sets l) (rule l (TypesRow r)) none x)
    (first l (TypesRow r) x))) (λ l. types.begins l r)

-- the tests of a row tell
abbrev Tells : Row → Type 0
Tells r = in_each (λ l. holds_everywhere (rule_tells (sets l) (rule l r) (follow r))) ≡ true

-- programs, items, and what they bind
items_tell : (c : Context) →
    Tells ModuleRow
    × Tells ScriptRow
    × Tells (ItemRow c)
    × Tells ClauseRow
    × Tells NamedRow
    × Tells ImportSpecifierRow
    × Tells ExportSpecifierRow
    × Tells AttributesRow
    × Tells EntityRow
unfolding rules_on_rows holds_everywhere
items_tell c = (refl, refl, refl, refl, refl, refl, refl, refl, refl)

-- statements and declarations
statements_tell : (c : Context) →
    Tells (StatementRow c)
    × Tells (BlockRow c)
    × Tells (DeclarationRow c)
    × Tells (DeclaredRow c)
    × Tells (VariablesRow c)
    × Tells (DeclaratorRow c)
    × Tells (UsingRow c)
    × Tells (HeadRow c)
    × Tells (HeadPatternRow c)
unfolding rules_on_rows holds_everywhere
statements_tell c = (refl, refl, refl, refl, refl, refl, refl, refl, refl)

-- parameters and patterns
patterns_tell : (c : Context) →
    Tells (SignatureRow c)
    × Tells (ParametersRow c)
    × Tells (ParameterRow c)
    × Tells (PatternRow true c)
    × Tells (PatternRow false c)
    × Tells (InnerPatternRow true c)
    × Tells (InnerPatternRow false c)
    × Tells (PatternElementRow true c)
    × Tells (PatternElementRow false c)
    × Tells (PatternPropertyRow true c)
    × Tells (PatternPropertyRow false c)
unfolding rules_on_rows holds_everywhere
patterns_tell c = (refl, refl, refl, refl, refl, refl, refl, refl, refl, refl, refl)

-- functions, classes, members and properties
members_tell : (c : Context) →
    Tells (FunctionRow true c)
    × Tells (FunctionRow false c)
    × Tells (ClassRow true c)
    × Tells (ClassRow false c)
    × Tells (MemberRow c)
    × Tells (PropertyRow c)
    × Tells (KeyRow true c)
    × Tells (KeyRow false c)
unfolding rules_on_rows holds_everywhere
members_tell c = (refl, refl, refl, refl, refl, refl, refl, refl)

-- the loosest expressions, and levels of operators: each alone, since each is computed at length
expression_tells : (c : Context) → Tells (ExpressionRow c)
unfolding rules_on_rows holds_everywhere
expression_tells c = refl

assignment_tells : (c : Context) → Tells (AssignmentRow c)
unfolding rules_on_rows holds_everywhere
assignment_tells c = refl

and_tells : (c : Context) → Tells (AndRow c)
unfolding rules_on_rows holds_everywhere
and_tells c = refl

bit_or_tells : (c : Context) → Tells (BitOrRow c)
unfolding rules_on_rows holds_everywhere
bit_or_tells c = refl

element_tells : (c : Context) → Tells (ElementRow c)
unfolding rules_on_rows holds_everywhere
element_tells c = refl

bit_xor_tells : (c : Context) → Tells (BitXorRow c)
unfolding rules_on_rows holds_everywhere
bit_xor_tells c = refl

bit_and_tells : (c : Context) → Tells (BitAndRow c)
unfolding rules_on_rows holds_everywhere
bit_and_tells c = refl

equality_tells : (c : Context) → Tells (EqualityRow c)
unfolding rules_on_rows holds_everywhere
equality_tells c = refl

relation_tells : (c : Context) → Tells (RelationRow c)
unfolding rules_on_rows holds_everywhere
relation_tells c = refl

shift_tells : (c : Context) → Tells (ShiftRow c)
unfolding rules_on_rows holds_everywhere
shift_tells c = refl

sum_tells : (c : Context) → Tells (SumRow c)
unfolding rules_on_rows holds_everywhere
sum_tells c = refl

product_tells : (c : Context) → Tells (ProductRow c)
unfolding rules_on_rows holds_everywhere
product_tells c = refl

power_tells : (c : Context) → Tells (PowerRow c)
unfolding rules_on_rows holds_everywhere
power_tells c = refl

unary_tells : (c : Context) → Tells (UnaryRow c)
unfolding rules_on_rows holds_everywhere
unary_tells c = refl

right_tells : (c : Context) → Tells (RightRow c)
unfolding rules_on_rows holds_everywhere
right_tells c = refl

-- chains and their parts
chains_tell : (c : Context) →
    Tells (ChainRow c)
    × Tells (CalleeRow c)
    × Tells (PostRow c)
    × Tells (MemberPostRow c)
    × Tells (ArgumentsRow c)
    × Tells (TemplateRow c)
unfolding rules_on_rows holds_everywhere
chains_tell c = (refl, refl, refl, refl, refl, refl)

pub tests_tell : (r : Row) → Tells r
tests_tell ModuleRow = (items_tell in_module).0
tests_tell ScriptRow = (items_tell in_module).1
tests_tell (ItemRow c) = (items_tell c).2
tests_tell ClauseRow = (items_tell in_module).3
tests_tell NamedRow = (items_tell in_module).4
tests_tell ImportSpecifierRow = (items_tell in_module).5
tests_tell ExportSpecifierRow = (items_tell in_module).6
tests_tell AttributesRow = (items_tell in_module).7
tests_tell EntityRow = (items_tell in_module).8
tests_tell (StatementRow c) = (statements_tell c).0
tests_tell (BlockRow c) = (statements_tell c).1
tests_tell (DeclarationRow c) = (statements_tell c).2
tests_tell (DeclaredRow c) = (statements_tell c).3
tests_tell (VariablesRow c) = (statements_tell c).4
tests_tell (DeclaratorRow c) = (statements_tell c).5
tests_tell (UsingRow c) = (statements_tell c).6
tests_tell (HeadRow c) = (statements_tell c).7
tests_tell (HeadPatternRow c) = (statements_tell c).8
tests_tell (SignatureRow c) = (patterns_tell c).0
tests_tell (ParametersRow c) = (patterns_tell c).1
tests_tell (ParameterRow c) = (patterns_tell c).2
tests_tell (PatternRow true c) = (patterns_tell c).3
tests_tell (PatternRow false c) = (patterns_tell c).4
tests_tell (InnerPatternRow true c) = (patterns_tell c).5
tests_tell (InnerPatternRow false c) = (patterns_tell c).6
tests_tell (PatternElementRow true c) = (patterns_tell c).7
tests_tell (PatternElementRow false c) = (patterns_tell c).8
tests_tell (PatternPropertyRow true c) = (patterns_tell c).9
tests_tell (PatternPropertyRow false c) = (patterns_tell c).10
tests_tell (FunctionRow true c) = (members_tell c).0
tests_tell (FunctionRow false c) = (members_tell c).1
tests_tell (ClassRow true c) = (members_tell c).2
tests_tell (ClassRow false c) = (members_tell c).3
tests_tell (MemberRow c) = (members_tell c).4
tests_tell (PropertyRow c) = (members_tell c).5
tests_tell (KeyRow true c) = (members_tell c).6
tests_tell (KeyRow false c) = (members_tell c).7
tests_tell (ExpressionRow c) = expression_tells c
tests_tell (AssignmentRow c) = assignment_tells c
tests_tell (AndRow c) = and_tells c
tests_tell (BitOrRow c) = bit_or_tells c
tests_tell (BitXorRow c) = bit_xor_tells c
tests_tell (BitAndRow c) = bit_and_tells c
tests_tell (EqualityRow c) = equality_tells c
tests_tell (RelationRow c) = relation_tells c
tests_tell (ShiftRow c) = shift_tells c
tests_tell (SumRow c) = sum_tells c
tests_tell (ProductRow c) = product_tells c
tests_tell (PowerRow c) = power_tells c
tests_tell (UnaryRow c) = unary_tells c
tests_tell (RightRow c) = right_tells c
tests_tell (ChainRow c) = (chains_tell c).0
tests_tell (CalleeRow c) = (chains_tell c).1
tests_tell (PostRow c) = (chains_tell c).2
tests_tell (MemberPostRow c) = (chains_tell c).3
tests_tell (ArgumentsRow c) = (chains_tell c).4
tests_tell (ElementRow c) = element_tells c
tests_tell (TemplateRow c) = (chains_tell c).5
tests_tell (TypesRow r) =
    each_holds (λ l. holds_everywhere (rule_tells (sets l) (rule l (TypesRow r)) (follow (TypesRow r))))
    (λ l. types.tests_tell l r)
