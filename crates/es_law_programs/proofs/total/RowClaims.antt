-- Each row gives what is claimed of it, in each language: computed, row by row.
use Rattle.std.specs.Prelude.{true, false}
use Rattle.std.proofs.Common.{◌≡◌, refl}
use Rattle.grammar_theory.specs.Tells.{implies}
use Rattle.grammar_theory.proofs.EachKind.{holds_everywhere}
use Rattle.es_grammar.specs.Table.{rule}
use Rattle.es_grammar.specs.declared.rows.Row.{Row}
use Rattle.es_grammar.specs.declared.rows.Row.TheVariants.{ModuleRow, ScriptRow, ItemRow, ClauseRow, NamedRow, ImportSpecifierRow, ExportSpecifierRow, AttributesRow, EntityRow, StatementRow, BlockRow, DeclarationRow, DeclaredRow, VariablesRow, DeclaratorRow, UsingRow, HeadRow, HeadPatternRow, SignatureRow, ParametersRow, ParameterRow, PatternRow, InnerPatternRow, PatternElementRow, PatternPropertyRow, FunctionRow, ClassRow, MemberRow, PropertyRow, KeyRow, ExpressionRow, AssignmentRow, AndRow, BitOrRow, BitXorRow, BitAndRow, EqualityRow, RelationRow, RightRow, ShiftRow, SumRow, ProductRow, PowerRow, UnaryRow, ChainRow, CalleeRow, PostRow, MemberPostRow, ArgumentsRow, ElementRow, TemplateRow, TypesRow}
use Rattle.es_grammar.proofs.Languages.{in_each}
use Rattle.es_grammar.proofs.OnRows.{rules_on_rows}
use Rattle.es_lowering.specs.Texts.{stop_of}
use Rattle.es_lowering.specs.Operators.{unary_ops, update_ops, arithmetic_ops, logical_ops, assign_ops, variable_kinds, accessor_kinds}
use Rattle.es_lowering.specs.TypeTexts.{keyword_kinds, type_operators, signs}
use Rattle.es_law_programs.proofs.total.Rows.{first_use, second_use, yields, shut}
use Rattle.es_law_programs.proofs.total.Table.{needs}
use Rattle.es_law_programs.proofs.total.Rules.{rule_ok}
use Rattle.es_law_programs.proofs.total.TypeClaims as types

pub gives_first : (r : Row)
    → in_each (λ l. implies (yields l r (first_use l r)) (rule_ok (yields l) needs (shut r) (rule l r) (first_use l r))) ≡ true
unfolding rules_on_rows holds_everywhere stop_of unary_ops update_ops arithmetic_ops logical_ops assign_ops
    variable_kinds accessor_kinds keyword_kinds type_operators signs
gives_first ModuleRow = refl
gives_first ScriptRow = refl
gives_first (ItemRow c) = refl
gives_first ClauseRow = refl
gives_first NamedRow = refl
gives_first ImportSpecifierRow = refl
gives_first ExportSpecifierRow = refl
gives_first AttributesRow = refl
gives_first EntityRow = refl
gives_first (StatementRow c) = refl
gives_first (BlockRow c) = refl
gives_first (DeclarationRow c) = refl
gives_first (DeclaredRow c) = refl
gives_first (VariablesRow c) = refl
gives_first (DeclaratorRow c) = refl
gives_first (UsingRow c) = refl
gives_first (HeadRow c) = refl
gives_first (HeadPatternRow c) = refl
gives_first (SignatureRow c) = refl
gives_first (ParametersRow c) = refl
gives_first (ParameterRow c) = refl
gives_first (PatternRow true c) = refl
gives_first (PatternRow false c) = refl
gives_first (InnerPatternRow true c) = refl
gives_first (InnerPatternRow false c) = refl
gives_first (PatternElementRow true c) = refl
gives_first (PatternElementRow false c) = refl
gives_first (PatternPropertyRow true c) = refl
gives_first (PatternPropertyRow false c) = refl
gives_first (FunctionRow true c) = refl
gives_first (FunctionRow false c) = refl
gives_first (ClassRow true c) = refl
gives_first (ClassRow false c) = refl
gives_first (MemberRow c) = refl
gives_first (PropertyRow c) = refl
gives_first (KeyRow true c) = refl
gives_first (KeyRow false c) = refl
gives_first (ExpressionRow c) = refl
gives_first (AssignmentRow c) = refl
gives_first (AndRow c) = refl
gives_first (BitOrRow c) = refl
gives_first (BitXorRow c) = refl
gives_first (BitAndRow c) = refl
gives_first (EqualityRow c) = refl
gives_first (RelationRow c) = refl
gives_first (RightRow c) = refl
gives_first (ShiftRow c) = refl
gives_first (SumRow c) = refl
gives_first (ProductRow c) = refl
gives_first (PowerRow c) = refl
gives_first (UnaryRow c) = refl
gives_first (ChainRow c) = refl
gives_first (CalleeRow c) = refl
gives_first (PostRow c) = refl
gives_first (MemberPostRow c) = refl
gives_first (ArgumentsRow c) = refl
gives_first (ElementRow c) = refl
gives_first (TemplateRow c) = refl
gives_first (TypesRow r) = types.gives_first r

pub gives_second : (r : Row)
    → in_each (λ l. implies (yields l r (second_use l r)) (rule_ok (yields l) needs (shut r) (rule l r) (second_use l r))) ≡ true
unfolding rules_on_rows holds_everywhere stop_of unary_ops update_ops arithmetic_ops logical_ops assign_ops
    variable_kinds accessor_kinds keyword_kinds type_operators signs
gives_second (BlockRow c) = refl
gives_second (DeclaredRow c) = refl
gives_second (VariablesRow c) = refl
gives_second (UsingRow c) = refl
gives_second (PatternRow false c) = refl
gives_second (TypesRow r) = types.gives_second r
gives_second r = gives_first r
