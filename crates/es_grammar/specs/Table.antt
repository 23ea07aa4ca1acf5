-- The table of programs: the rule of each row, by the language.
use Rattle.grammar_theory.specs.declared.error.Lang.{Lang}
use Rattle.grammar_theory.specs.Productions.{Production, refuse}
use Rattle.es_grammar.specs.types.Modules as modules
use Rattle.es_grammar.specs.types.TypeTable.{type_rule}
use Rattle.es_grammar.specs.declared.rows.Row.{Row}
use Rattle.es_grammar.specs.declared.rows.NodeKind.{NodeKind}
use Rattle.es_grammar.specs.declared.rows.Row.TheVariants.{ModuleRow, ScriptRow, ItemRow, ClauseRow, NamedRow, ImportSpecifierRow, ExportSpecifierRow, AttributesRow, EntityRow, StatementRow, BlockRow, DeclarationRow, DeclaredRow, VariablesRow, DeclaratorRow, UsingRow, HeadRow, HeadPatternRow, FunctionRow, ClassRow, SignatureRow, ParametersRow, ParameterRow, PatternRow, InnerPatternRow, PatternElementRow, PatternPropertyRow, MemberRow, PropertyRow, KeyRow, ExpressionRow, AssignmentRow, AndRow, BitOrRow, BitXorRow, BitAndRow, EqualityRow, RelationRow, RightRow, ShiftRow, SumRow, ProductRow, PowerRow, UnaryRow, ChainRow, CalleeRow, PostRow, MemberPostRow, ArgumentsRow, ElementRow, TemplateRow, TypesRow}
use Rattle.es_grammar.specs.Embedding.{types_rule}
use Rattle.es_grammar.specs.Expressions.{any_function, any_class, template, arguments, post, member_post, chain, callee, unary, power, product, sum, shift, right_operand, relation, equality, bit_and, bit_xor, bit_or, and_, assignment, expression, element}
use Rattle.es_grammar.specs.Functions.{pattern, inner_pattern, pattern_element, pattern_property, parameters, parameter, signature, key, property}
use Rattle.es_grammar.specs.Classes.{member}
use Rattle.es_grammar.specs.Statements.{block, declarator, variables, using_, head, head_pattern}
use Rattle.es_grammar.specs.Declarations.{declaration, declared, statement}
use Rattle.es_grammar.specs.Items.{item, module_, script}

unfoldable pub rule : Lang → Row → Production Row NodeKind
rule l ModuleRow = module_
rule l ScriptRow = script
rule l (ItemRow c) = item l c
rule l ClauseRow = modules.clause
rule l NamedRow = modules.named
rule l ImportSpecifierRow = modules.import_specifier l
rule l ExportSpecifierRow = modules.export_specifier l
rule l AttributesRow = modules.attributes
rule l EntityRow = modules.entity
rule l (StatementRow c) = statement l c
rule l (BlockRow c) = block c
rule l (DeclarationRow c) = declaration l c refuse
rule l (DeclaredRow c) = declared l c
rule l (VariablesRow c) = variables c
rule l (DeclaratorRow c) = declarator l c
rule l (UsingRow c) = using_ c
rule l (HeadRow c) = head l c
rule l (HeadPatternRow c) = head_pattern l c
rule l (FunctionRow named c) = any_function l named c
rule l (ClassRow named c) = any_class l named c
rule l (SignatureRow c) = signature l c
rule l (ParametersRow c) = parameters l c
rule l (ParameterRow c) = parameter l c
rule l (PatternRow t c) = pattern l t c
rule l (InnerPatternRow t c) = inner_pattern l t c
rule l (PatternElementRow t c) = pattern_element l t c
rule l (PatternPropertyRow t c) = pattern_property t c
rule l (MemberRow c) = member l c
rule l (PropertyRow c) = property l c
rule l (KeyRow p c) = key p c
rule l (ExpressionRow c) = expression l c
rule l (AssignmentRow c) = assignment l c
rule l (AndRow c) = and_ c (bit_or l c)
rule l (BitOrRow c) = bit_or l c
rule l (BitXorRow c) = bit_xor l c
rule l (BitAndRow c) = bit_and l c
rule l (EqualityRow c) = equality l c
rule l (RelationRow c) = relation l c
rule l (RightRow c) = right_operand l c
rule l (ShiftRow c) = shift l c
rule l (SumRow c) = sum l c
rule l (ProductRow c) = product l c
rule l (PowerRow c) = power l c
rule l (UnaryRow c) = unary l c
rule l (ChainRow c) = chain l c
rule l (CalleeRow c) = callee l c
rule l (PostRow c) = post l c
rule l (MemberPostRow c) = member_post l c
rule l (ArgumentsRow c) = arguments c
rule l (ElementRow c) = element l c
rule l (TemplateRow c) = template c
rule l (TypesRow r) = types_rule (type_rule r)
