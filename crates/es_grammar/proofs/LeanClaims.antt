-- Nodes that lean are made of turns behind an operand alone, in either language: what is claimed of each row is
-- computed.
use Rattle.std.specs.Prelude.{true, false, not}
use Rattle.std.proofs.Common.{◌≡◌, refl, ap}
use Rattle.grammar_theory.specs.declared.error.Lang.{Lang}
use Rattle.grammar_theory.specs.Checks.{leans_by_turns}
use Rattle.grammar_theory.specs.Productions.{Production, refuse, make, choose, as_, pick, wrap}
use Rattle.es_grammar.specs.declared.rows.Row.{Row}
use Rattle.es_grammar.specs.declared.rows.Row.TheVariants.{ModuleRow, ScriptRow, ItemRow, ClauseRow, NamedRow, ImportSpecifierRow, ExportSpecifierRow, AttributesRow, EntityRow, StatementRow, BlockRow, DeclarationRow, DeclaredRow, VariablesRow, DeclaratorRow, UsingRow, HeadRow, HeadPatternRow, SignatureRow, ParametersRow, ParameterRow, PatternRow, InnerPatternRow, PatternElementRow, PatternPropertyRow, FunctionRow, ClassRow, MemberRow, PropertyRow, KeyRow, ExpressionRow, AssignmentRow, AndRow, BitOrRow, BitXorRow, BitAndRow, EqualityRow, RelationRow, RightRow, ShiftRow, SumRow, ProductRow, PowerRow, UnaryRow, ChainRow, CalleeRow, PostRow, MemberPostRow, ArgumentsRow, ElementRow, TemplateRow, TypesRow}
use Rattle.es_grammar.specs.Table.{rule}
use Rattle.es_grammar.specs.declared.types.rows.TypeRow.{TypeRow}
use Rattle.es_grammar.specs.types.TypeRows.{NodeKind as TableNodeKind}
use Rattle.es_grammar.specs.types.TypeRows as table
use Rattle.es_grammar.specs.types.TypeTable.{type_rule}
use Rattle.es_grammar.specs.TypeNames.{label_name}
use Rattle.es_grammar.specs.Embedding.{types_rule}
use Rattle.es_grammar.specs.Conditions.{leans}
use Rattle.es_grammar.proofs.Languages.{both_true, in_each, each_holds, holds_in}
use Rattle.es_grammar.proofs.OnRows.{rules_on_rows}

-- no alternative of types leans
pub types_stand : (l : TableNodeKind) → leans (label_name l) ≡ false
types_stand table.FunctionType = refl
types_stand table.ConstructorType = refl
types_stand table.ConditionalType = refl
types_stand table.UnionType = refl
types_stand table.LeadingUnionType = refl
types_stand table.IntersectionType = refl
types_stand table.LeadingIntersectionType = refl
types_stand table.TypeOperator = refl
types_stand table.InferType = refl
types_stand table.ArrayTypes = refl
types_stand table.KeywordType = refl
types_stand table.ThisType = refl
types_stand table.WordType = refl
types_stand table.StrType = refl
types_stand table.NumberType = refl
types_stand table.TemplateType = refl
types_stand table.TemplateTypes = refl
types_stand table.TypeQuery = refl
types_stand table.ParenthesizedType = refl
types_stand table.MembersType = refl
types_stand table.TupleType = refl
types_stand table.MappedType = refl
types_stand table.Entity = refl
types_stand table.Reference = refl
types_stand table.ImportType = refl
types_stand table.TypeArguments = refl
types_stand table.TypeParameters = refl
types_stand table.RestElement = refl
types_stand table.LabelledElement = refl
types_stand table.OptionalElement = refl
types_stand table.CallSignature = refl
types_stand table.ConstructSignature = refl
types_stand table.IndexSignature = refl
types_stand table.AccessorSignature = refl
types_stand table.MethodSignature = refl
types_stand table.PropertySignature = refl
types_stand table.ReadonlyProperty = refl
types_stand table.WordKey = refl
types_stand table.StrKey = refl
types_stand table.NumberKey = refl
types_stand table.ComputedKey = refl
types_stand table.AssertsResult = refl
types_stand table.PredicateResult = refl
types_stand table.Parameters = refl
types_stand table.ThisParameter = refl
types_stand table.MarkedParameter = refl
types_stand table.NamePattern = refl
types_stand table.ArrayPattern = refl
types_stand table.ObjectPattern = refl
types_stand table.RestPattern = refl
types_stand table.RestProperty = refl
types_stand table.KeyProperty = refl
types_stand table.NameProperty = refl
types_stand table.WordPatternKey = refl
types_stand table.StrPatternKey = refl
types_stand table.NumberPatternKey = refl

types_lean : (a : Production TypeRow TableNodeKind) → leans_by_turns leans (types_rule a) ≡ true
types_lean refuse = refl
types_lean (make l f) = ap not (types_stand l)
types_lean (choose t a b) =
    both_true (leans_by_turns leans (types_rule a)) (leans_by_turns leans (types_rule b)) (types_lean a) (types_lean b)
types_lean (as_ w a) = types_lean a
types_lean (pick g a b) =
    both_true (leans_by_turns leans (types_rule a)) (leans_by_turns leans (types_rule b)) (types_lean a) (types_lean b)
types_lean (wrap l a c f) = types_lean a

-- the rows of programs, in each language
each_leans : (r : Row) → in_each (λ l. leans_by_turns leans (rule l r)) ≡ true
unfolding rules_on_rows
each_leans ModuleRow = refl
each_leans ScriptRow = refl
each_leans (ItemRow c) = refl
each_leans ClauseRow = refl
each_leans NamedRow = refl
each_leans ImportSpecifierRow = refl
each_leans ExportSpecifierRow = refl
each_leans AttributesRow = refl
each_leans EntityRow = refl
each_leans (StatementRow c) = refl
each_leans (BlockRow c) = refl
each_leans (DeclarationRow c) = refl
each_leans (DeclaredRow c) = refl
each_leans (VariablesRow c) = refl
each_leans (DeclaratorRow c) = refl
each_leans (UsingRow c) = refl
each_leans (HeadRow c) = refl
each_leans (HeadPatternRow c) = refl
each_leans (SignatureRow c) = refl
each_leans (ParametersRow c) = refl
each_leans (ParameterRow c) = refl
each_leans (PatternRow true c) = refl
each_leans (PatternRow false c) = refl
each_leans (InnerPatternRow true c) = refl
each_leans (InnerPatternRow false c) = refl
each_leans (PatternElementRow true c) = refl
each_leans (PatternElementRow false c) = refl
each_leans (PatternPropertyRow true c) = refl
each_leans (PatternPropertyRow false c) = refl
each_leans (FunctionRow true c) = refl
each_leans (FunctionRow false c) = refl
each_leans (ClassRow true c) = refl
each_leans (ClassRow false c) = refl
each_leans (MemberRow c) = refl
each_leans (PropertyRow c) = refl
each_leans (KeyRow true c) = refl
each_leans (KeyRow false c) = refl
each_leans (ExpressionRow c) = refl
each_leans (AssignmentRow c) = refl
each_leans (AndRow c) = refl
each_leans (BitOrRow c) = refl
each_leans (BitXorRow c) = refl
each_leans (BitAndRow c) = refl
each_leans (EqualityRow c) = refl
each_leans (RelationRow c) = refl
each_leans (RightRow c) = refl
each_leans (ShiftRow c) = refl
each_leans (SumRow c) = refl
each_leans (ProductRow c) = refl
each_leans (PowerRow c) = refl
each_leans (UnaryRow c) = refl
each_leans (ChainRow c) = refl
each_leans (CalleeRow c) = refl
each_leans (PostRow c) = refl
each_leans (MemberPostRow c) = refl
each_leans (ArgumentsRow c) = refl
each_leans (ElementRow c) = refl
each_leans (TemplateRow c) = refl
each_leans (TypesRow r) =
    each_holds (λ l. leans_by_turns leans (rule l (TypesRow r))) (λ l. types_lean (type_rule r))

-- in the table of programs
pub leans_told : (l : Lang) (r : Row) → leans_by_turns leans (rule l r) ≡ true
leans_told l r = holds_in (λ m. leans_by_turns leans (rule m r)) (each_leans r) l
