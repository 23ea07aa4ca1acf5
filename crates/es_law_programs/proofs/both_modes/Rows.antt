-- A tree of a row is a tree of the same row in a place for both.
use Rattle.std.specs.Prelude.{List}
use Rattle.std.proofs.Common.{ℕ, zero, suc}
use Rattle.grammar_theory.specs.declared.error.Lang.{Lang}
use Rattle.grammar_theory.specs.Key.{Key}
use Rattle.grammar_theory.specs.Plain.{Plain}
use Rattle.grammar_theory.specs.Fits.{free, Under}
use Rattle.es_grammar.specs.declared.rows.Row.{Row}
use Rattle.es_grammar.specs.declared.rows.Row.TheVariants.{ModuleRow, ScriptRow, ItemRow, ClauseRow, NamedRow, ImportSpecifierRow, ExportSpecifierRow, AttributesRow, EntityRow, StatementRow, BlockRow, DeclarationRow, DeclaredRow, VariablesRow, DeclaratorRow, UsingRow, HeadRow, HeadPatternRow, FunctionRow, ClassRow, SignatureRow, ParametersRow, ParameterRow, PatternRow, InnerPatternRow, PatternElementRow, PatternPropertyRow, MemberRow, PropertyRow, KeyRow, ExpressionRow, AssignmentRow, AndRow, BitOrRow, BitXorRow, BitAndRow, EqualityRow, RelationRow, RightRow, ShiftRow, SumRow, ProductRow, PowerRow, UnaryRow, ChainRow, CalleeRow, PostRow, MemberPostRow, ArgumentsRow, ElementRow, TemplateRow, TypesRow}
use Rattle.es_grammar.specs.declared.rows.NodeKind.{NodeKind}
use Rattle.es_grammar.specs.Table.{rule}
use Rattle.es_grammar.specs.Expressions.{bit_or}
use Rattle.es_law_programs.specs.both_modes.Both.{both, both_row}
use Rattle.es_law_programs.proofs.both_modes.Carries.{RuleCarries}
use Rattle.es_law_programs.proofs.both_modes.Rules as rules
use Rattle.es_law_programs.proofs.both_modes.Items as items

module _ (K : List Key) (Below : Row → Plain NodeKind → ℕ → ℕ → Type 0)
    (each : (r : Row) (q : Plain NodeKind) (from mid : ℕ) → Below r q from mid → Below (both_row r) q from mid) where
  -- the rule of a row carries to that of the row in a place for both; the rows that stand in none are the same
  row_eases : (l : Lang) (r : Row) → RuleCarries K Below (rule l r) (rule l (both_row r))
  unfolding rule
  row_eases l ModuleRow = record { by = λ p from to by. by }
  row_eases l ScriptRow = record { by = λ p from to by. by }
  row_eases l (ItemRow c) = items.item_eases K Below each l c
  row_eases l ClauseRow = record { by = λ p from to by. by }
  row_eases l NamedRow = record { by = λ p from to by. by }
  row_eases l ImportSpecifierRow = record { by = λ p from to by. by }
  row_eases l ExportSpecifierRow = record { by = λ p from to by. by }
  row_eases l AttributesRow = record { by = λ p from to by. by }
  row_eases l EntityRow = record { by = λ p from to by. by }
  row_eases l (StatementRow c) = rules.statement_eases K Below each l c
  row_eases l (BlockRow c) = items.block_eases K Below each c
  row_eases l (DeclarationRow c) = items.declaration_eases K Below each l c
  row_eases l (DeclaredRow c) = items.declared_eases K Below each l c
  row_eases l (VariablesRow c) = items.variables_eases K Below each c
  row_eases l (DeclaratorRow c) = items.declarator_eases K Below each l c
  row_eases l (UsingRow c) = rules.using_eases K Below each c
  row_eases l (HeadRow c) = rules.head_eases K Below each l c
  row_eases l (HeadPatternRow c) = rules.head_pattern_eases K Below each l c
  row_eases l (FunctionRow named c) = items.function_eases K Below each l named c
  row_eases l (ClassRow named c) = items.class_eases K Below each l named c
  row_eases l (SignatureRow c) = items.signature_eases K Below each l c
  row_eases l (ParametersRow c) = items.parameters_eases K Below each l c
  row_eases l (ParameterRow c) = items.parameter_eases K Below each l c
  row_eases l (PatternRow t c) = rules.pattern_eases K Below each l t c
  row_eases l (InnerPatternRow t c) = rules.inner_pattern_eases K Below each l t c
  row_eases l (PatternElementRow t c) = rules.pattern_element_eases K Below each l t c
  row_eases l (PatternPropertyRow t c) = items.property_pattern_eases K Below each t c
  row_eases l (MemberRow c) = items.member_eases K Below each l c
  row_eases l (PropertyRow c) = items.property_eases K Below each l c
  row_eases l (KeyRow p c) = items.key_eases K Below each p c
  row_eases l (ExpressionRow c) = rules.expression_eases K Below each l c
  row_eases l (AssignmentRow c) = rules.assignment_eases K Below each l c
  row_eases l (AndRow c) =
      rules.and_eases K Below each c (bit_or l c) (bit_or l (both c)) (rules.bit_or_eases K Below each l c)
  row_eases l (BitOrRow c) = rules.bit_or_eases K Below each l c
  row_eases l (BitXorRow c) = rules.bit_xor_eases K Below each l c
  row_eases l (BitAndRow c) = rules.bit_and_eases K Below each l c
  row_eases l (EqualityRow c) = rules.equality_eases K Below each l c
  row_eases l (RelationRow c) = rules.relation_eases K Below each l c
  row_eases l (RightRow c) = rules.right_eases K Below each l c
  row_eases l (ShiftRow c) = rules.shift_eases K Below each l c
  row_eases l (SumRow c) = rules.sum_eases K Below each l c
  row_eases l (ProductRow c) = rules.product_eases K Below each l c
  row_eases l (PowerRow c) = rules.power_eases K Below each l c
  row_eases l (UnaryRow c) = rules.unary_eases K Below each l c
  row_eases l (ChainRow c) = rules.chain_eases K Below each l c
  row_eases l (CalleeRow c) = rules.callee_eases K Below each l c
  row_eases l (PostRow c) = items.post_eases K Below each l c
  row_eases l (MemberPostRow c) = items.member_post_eases K Below each l c
  row_eases l (ArgumentsRow c) = items.arguments_eases K Below each c
  row_eases l (ElementRow c) = rules.element_eases K Below each l c
  row_eases l (TemplateRow c) = items.template_eases K Below each c
  row_eases l (TypesRow r) = record { by = λ p from to by. by }

-- a tree of a row is one in a place for both
pub in_both : (l : Lang) (K : List Key) (room : ℕ) (r : Row) (p : Plain NodeKind) (from to : ℕ)
    → Under free K (rule l) room r p from to → Under free K (rule l) room (both_row r) p from to
unfolding Under
in_both l K zero r p from to under = under
in_both l K (suc room) r p from to under =
    (row_eases K (Under free K (rule l) room) (in_both l K room) l r).by p from to under
