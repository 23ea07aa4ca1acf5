-- The tests and predicates that are named by a value, and what each is.
use Rattle.std.specs.Prelude.{ℕ, leb, Bool, true, false, ◌||◌, List, Option, Some, None, if◌then◌else◌}
use Rattle.es_token.specs.declared.token.TokenKind.{TokenKind}
use Rattle.grammar_theory.specs.Key.{Key, TokenTest, has_kind}
use Rattle.grammar_theory.specs.Productions.{Predicate}
use Rattle.es_grammar.specs.types.Functions.{opens_accessor, opens_async, opens_star}
use Rattle.es_grammar.specs.types.Classes.{opens_field_accessor}
use Rattle.es_grammar.specs.types.Members.{shows_index}
use Rattle.es_grammar.specs.types.TypeNames.{begins_angle}
use Rattle.es_lookahead.specs.declared.ends.End.{End}
use Rattle.es_lookahead.specs.Named as plain
use Rattle.es_lookahead.specs.declared.named.Kinds.TheVariants as plain_kinds
use Rattle.es_lookahead.specs.declared.named.Lookahead.TheVariants as plain_lookahead
use Rattle.es_lookahead.specs.declared.named.Predicate.TheVariants as plain_predicate
use Rattle.es_grammar.specs.Embedding.{opens_call_arguments, opens_heritage_arguments}
use Rattle.es_grammar.specs.Expressions.{is_assertion_word, opens_new_arguments, opens_class_name, is_tight, comes_behind, is_tightest, begins_parameters, begins_arguments, begins_callee_post, opens_operand, opens_assertion, opens_non_null, opens_any_arrow, opens_async_here, opens_async_list, opens_arrow_result, opens_no_arrow, opens_post, opens_call, opens_typed_template, opens_shift_in, opens_comparison, is_behind_as, opens_abstract_class, may_await, may_test, is_module, no_assignment}
use Rattle.es_grammar.specs.Functions.{is_typed_modifier, is_modifier, opens_parameter_modifier, each_once, opens_marked, opens_typed_method, opens_any_method}
use Rattle.es_grammar.specs.Classes.{opens_modifier, behind_all, is_member_key, is_field_mark}
use Rattle.es_grammar.specs.Statements.{begins_value_here, is_script, opens_declarator, opens_initial}
use Rattle.es_grammar.specs.Declarations.{is_declaration_word, is_namespace_word, opens_interface, opens_alias, opens_enum, opens_namespace, opens_module, opens_global, opens_declare, declares_variables}
use Rattle.es_grammar.specs.Items.{opens_any_default_class, opens_default_interface, opens_any_declaration, opens_export_assignment}
use Rattle.es_shared_rules.specs.declared.predicates.named.Kinds.{Kinds}
use Rattle.es_shared_rules.specs.declared.predicates.named.Kinds.TheVariants as kinds
use Rattle.es_shared_rules.specs.declared.predicates.named.Lookahead.{Lookahead}
use Rattle.es_shared_rules.specs.declared.predicates.named.Lookahead.TheVariants as lookahead
use Rattle.es_shared_rules.specs.declared.predicates.named.Predicate.{Predicate as NamedPredicate}
use Rattle.es_shared_rules.specs.declared.predicates.named.Predicate.TheVariants as predicate
use Rattle.es_shared_rules.specs.declared.predicates.named.Modifiers.{Modifiers}
use Rattle.es_shared_rules.specs.declared.predicates.named.Modifiers.TheVariants as modifiers

-- the predicate holds behind what was read
abbrev pub holds_behind : Predicate → List Key → Option ℕ → Bool
holds_behind g K (Some to) = g K to
holds_behind g K None = false

-- the token behind a part of at most 500 nodes on a path
abbrev pub low_end : Option End → Option ℕ
low_end (Some end) = if leb end.height 500 then Some end.to else None
low_end None = None

-- the kinds of tokens that are named
abbrev pub kinds_of : Kinds → TokenKind → Bool
kinds_of (kinds.Only kind) = plain.kinds_of (plain_kinds.Only kind)
kinds_of kinds.Name = plain.kinds_of plain_kinds.Name
kinds_of kinds.Word = plain.kinds_of plain_kinds.Word
kinds_of kinds.NameOrThis = plain.kinds_of plain_kinds.NameOrThis
kinds_of kinds.Numeric = plain.kinds_of plain_kinds.Numeric
kinds_of kinds.AccessorWord = plain.kinds_of plain_kinds.AccessorWord
kinds_of kinds.Prefix = plain.kinds_of plain_kinds.Prefix
kinds_of kinds.Update = plain.kinds_of plain_kinds.Update
kinds_of kinds.Product = plain.kinds_of plain_kinds.Product
kinds_of kinds.Sum = plain.kinds_of plain_kinds.Sum
kinds_of kinds.Equality = plain.kinds_of plain_kinds.Equality
kinds_of kinds.Relation = plain.kinds_of plain_kinds.Relation
kinds_of kinds.Assignment = plain.kinds_of plain_kinds.Assignment
kinds_of kinds.PropertyName = plain.kinds_of plain_kinds.PropertyName
kinds_of kinds.LiteralWord = plain.kinds_of plain_kinds.LiteralWord
kinds_of kinds.VariableWord = plain.kinds_of plain_kinds.VariableWord
kinds_of kinds.AssertionWord = is_assertion_word
kinds_of kinds.Tight = is_tight
kinds_of kinds.Tightest = is_tightest
kinds_of kinds.TypedModifier = is_typed_modifier
kinds_of kinds.Modifier = is_modifier
kinds_of kinds.FieldMark = is_field_mark
kinds_of kinds.DeclarationWord = is_declaration_word
kinds_of kinds.NamespaceWord = is_namespace_word

-- the test of the next token that is named
abbrev pub lookahead_of : Lookahead → TokenTest
lookahead_of (lookahead.Is kind) = plain.lookahead_of (plain_lookahead.Is kind)
lookahead_of (lookahead.Other kind) = plain.lookahead_of (plain_lookahead.Other kind)
lookahead_of lookahead.Near = plain.lookahead_of plain_lookahead.Near
lookahead_of lookahead.Token = plain.lookahead_of plain_lookahead.Token
lookahead_of lookahead.MayEnd = plain.lookahead_of plain_lookahead.MayEnd
lookahead_of lookahead.NoArrow = plain.lookahead_of plain_lookahead.NoArrow
lookahead_of lookahead.FollowsSuper = plain.lookahead_of plain_lookahead.FollowsSuper
lookahead_of lookahead.BeginsMember = plain.lookahead_of plain_lookahead.BeginsMember
lookahead_of lookahead.BeginsPost = plain.lookahead_of plain_lookahead.BeginsPost
lookahead_of lookahead.UpdateHere = plain.lookahead_of plain_lookahead.UpdateHere
lookahead_of lookahead.NoUpdateHere = plain.lookahead_of plain_lookahead.NoUpdateHere
lookahead_of lookahead.NoMix = plain.lookahead_of plain_lookahead.NoMix
lookahead_of lookahead.Parameter = plain.lookahead_of plain_lookahead.Parameter
lookahead_of lookahead.LabelHere = plain.lookahead_of plain_lookahead.LabelHere
lookahead_of lookahead.Case = plain.lookahead_of plain_lookahead.Case
lookahead_of lookahead.InCase = plain.lookahead_of plain_lookahead.InCase
lookahead_of lookahead.BeginsNoOther = plain.lookahead_of plain_lookahead.BeginsNoOther
lookahead_of (lookahead.Has named) = has_kind (kinds_of named)
lookahead_of (lookahead.BeginsParameters l) = begins_parameters l
lookahead_of (lookahead.BeginsArguments l) = begins_arguments l
lookahead_of (lookahead.BeginsCalleePost l) = begins_callee_post l
lookahead_of (lookahead.ValueHere l) = begins_value_here l
lookahead_of (lookahead.Operand l) = opens_operand l
lookahead_of lookahead.Assertion = opens_assertion
lookahead_of lookahead.NonNull = opens_non_null
lookahead_of lookahead.BeginsAngle = begins_angle

-- the predicate that is named
abbrev pub predicate_of : NamedPredicate → Predicate
predicate_of (predicate.OpensTypeImport l) = plain.predicate_of (plain_predicate.OpensTypeImport l)
predicate_of (predicate.OpensTypeName l) = plain.predicate_of (plain_predicate.OpensTypeName l)
predicate_of (predicate.IsRenamed l) = plain.predicate_of (plain_predicate.IsRenamed l)
predicate_of predicate.IsNoTypeAsAs = plain.predicate_of plain_predicate.IsNoTypeAsAs
predicate_of predicate.HasComma = plain.predicate_of plain_predicate.HasComma
predicate_of (predicate.OpensEquals l) = plain.predicate_of (plain_predicate.OpensEquals l)
predicate_of (predicate.OpensRequire l) = plain.predicate_of (plain_predicate.OpensRequire l)
predicate_of predicate.OpensBare = plain.predicate_of plain_predicate.OpensBare
predicate_of predicate.OpensSourceImport = plain.predicate_of plain_predicate.OpensSourceImport
predicate_of predicate.OpensDeferImport = plain.predicate_of plain_predicate.OpensDeferImport
predicate_of (predicate.OpensTypeExport l) = plain.predicate_of (plain_predicate.OpensTypeExport l)
predicate_of (predicate.OpensAll l) = plain.predicate_of (plain_predicate.OpensAll l)
predicate_of (predicate.OpensExportedEquals l) = plain.predicate_of (plain_predicate.OpensExportedEquals l)
predicate_of (predicate.OpensExportedRequire l) = plain.predicate_of (plain_predicate.OpensExportedRequire l)
predicate_of (predicate.OpensNamespace l) = plain.predicate_of (plain_predicate.OpensNamespace l)
predicate_of predicate.OpensImport = plain.predicate_of plain_predicate.OpensImport
predicate_of predicate.OpensDefault = plain.predicate_of plain_predicate.OpensDefault
predicate_of predicate.OpensDefaultFunction = plain.predicate_of plain_predicate.OpensDefaultFunction
predicate_of predicate.OpensDefaultClass = plain.predicate_of plain_predicate.OpensDefaultClass
predicate_of predicate.OpensDeclaration = plain.predicate_of plain_predicate.OpensDeclaration
predicate_of predicate.OpensUsing = plain.predicate_of plain_predicate.OpensUsing
predicate_of predicate.OpensFor = plain.predicate_of plain_predicate.OpensFor
predicate_of predicate.OpensForAwait = plain.predicate_of plain_predicate.OpensForAwait
predicate_of predicate.OpensHeadPattern = plain.predicate_of plain_predicate.OpensHeadPattern
predicate_of predicate.StartsUsing = plain.predicate_of plain_predicate.StartsUsing
predicate_of predicate.StartsExpression = plain.predicate_of plain_predicate.StartsExpression
predicate_of predicate.OpensLabel = plain.predicate_of plain_predicate.OpensLabel
predicate_of predicate.OpensInnerPattern = plain.predicate_of plain_predicate.OpensInnerPattern
predicate_of predicate.OpensValue = plain.predicate_of plain_predicate.OpensValue
predicate_of predicate.IsPlainKey = plain.predicate_of plain_predicate.IsPlainKey
predicate_of predicate.OpensMethod = plain.predicate_of plain_predicate.OpensMethod
predicate_of (predicate.OpensAccessor p) = plain.predicate_of (plain_predicate.OpensAccessor p)
predicate_of (predicate.OpensAsync p) = plain.predicate_of (plain_predicate.OpensAsync p)
predicate_of predicate.OpensStatic = plain.predicate_of plain_predicate.OpensStatic
predicate_of predicate.IsPlainMember = plain.predicate_of plain_predicate.IsPlainMember
predicate_of predicate.OpensStaticBlock = plain.predicate_of plain_predicate.OpensStaticBlock
predicate_of predicate.BehindStaticAccessor = plain.predicate_of plain_predicate.BehindStaticAccessor
predicate_of predicate.BehindStaticAsync = plain.predicate_of plain_predicate.BehindStaticAsync
predicate_of predicate.BehindStaticStar = plain.predicate_of plain_predicate.BehindStaticStar
predicate_of predicate.BehindStaticFieldAccessor = plain.predicate_of plain_predicate.BehindStaticFieldAccessor
predicate_of predicate.BehindStaticMethod = plain.predicate_of plain_predicate.BehindStaticMethod
predicate_of predicate.OpensAsyncParenthesis = plain.predicate_of plain_predicate.OpensAsyncParenthesis
predicate_of predicate.IsNoArrowHead = plain.predicate_of plain_predicate.IsNoArrowHead
predicate_of predicate.OpensAsyncFunction = plain.predicate_of plain_predicate.OpensAsyncFunction
predicate_of predicate.OpensProperty = plain.predicate_of plain_predicate.OpensProperty
predicate_of predicate.HasArgument = plain.predicate_of plain_predicate.HasArgument
predicate_of predicate.OpensSourceCall = plain.predicate_of plain_predicate.OpensSourceCall
predicate_of predicate.OpensDeferCall = plain.predicate_of plain_predicate.OpensDeferCall
predicate_of predicate.OpensShift = plain.predicate_of plain_predicate.OpensShift
predicate_of predicate.OpensArrow = plain.predicate_of plain_predicate.OpensArrow
predicate_of predicate.OpensAsyncArrow = plain.predicate_of plain_predicate.OpensAsyncArrow
predicate_of predicate.OpensPattern = plain.predicate_of plain_predicate.OpensPattern
predicate_of predicate.OpensAssignment = plain.predicate_of plain_predicate.OpensAssignment
predicate_of predicate.NoAssignment = no_assignment
predicate_of (predicate.Joins kind) = plain.predicate_of (plain_predicate.Joins kind)
predicate_of (predicate.OpensAnyArrow l c) = opens_any_arrow l c
predicate_of (predicate.OpensAsyncHere l c) = opens_async_here l c
predicate_of (predicate.OpensAsyncList l) = opens_async_list l
predicate_of (predicate.OpensArrowResult c) = opens_arrow_result c
predicate_of (predicate.OpensNoArrow l c) = opens_no_arrow l c
predicate_of predicate.OpensCallArguments = opens_call_arguments
predicate_of predicate.OpensNewArguments = opens_new_arguments
predicate_of predicate.OpensHeritageArguments = opens_heritage_arguments
predicate_of predicate.OpensPost = opens_post
predicate_of predicate.OpensCall = opens_call
predicate_of predicate.OpensTypedTemplate = opens_typed_template
predicate_of (predicate.OpensShiftIn l) = opens_shift_in l
predicate_of (predicate.OpensComparison l c) = opens_comparison l c
predicate_of predicate.IsBehindAs = is_behind_as
predicate_of (predicate.ComesBehind named) = comes_behind (kinds_of named)
predicate_of predicate.OpensClassName = opens_class_name
predicate_of predicate.OpensAbstractClass = opens_abstract_class
predicate_of (predicate.MayAwait c) = may_await c
predicate_of (predicate.MayTest c) = may_test c
predicate_of (predicate.IsModule c) = is_module c
predicate_of (predicate.IsScript c) = is_script c
predicate_of (predicate.OpensParameterModifier c) = opens_parameter_modifier c
predicate_of (predicate.ParameterModifiersOnce c) = each_once (opens_parameter_modifier c)
predicate_of predicate.OpensMarked = opens_marked
predicate_of (predicate.OpensAnyMethod l) = opens_any_method l
predicate_of predicate.OpensModifier = opens_modifier
predicate_of predicate.ModifiersOnce = each_once opens_modifier
predicate_of predicate.IsMemberKey = is_member_key
predicate_of predicate.BehindAllIndex = behind_all shows_index
predicate_of predicate.BehindAllAccessor = behind_all (opens_accessor true)
predicate_of predicate.BehindAllAsync = behind_all (opens_async true)
predicate_of predicate.BehindAllStar = behind_all opens_star
predicate_of predicate.BehindAllFieldAccessor = behind_all opens_field_accessor
predicate_of predicate.BehindAllMethod = behind_all opens_typed_method
predicate_of predicate.OpensDeclarator = opens_declarator
predicate_of predicate.OpensInitial = opens_initial
predicate_of predicate.OpensInterface = opens_interface
predicate_of predicate.OpensAlias = opens_alias
predicate_of predicate.OpensEnum = opens_enum
predicate_of predicate.OpensNamespaceDeclaration = opens_namespace
predicate_of predicate.OpensModule = opens_module
predicate_of predicate.OpensGlobal = opens_global
predicate_of predicate.OpensDeclare = opens_declare
predicate_of predicate.DeclaresVariables = declares_variables
predicate_of (predicate.OpensAnyDefaultClass l) = opens_any_default_class l
predicate_of predicate.OpensDefaultInterface = opens_default_interface
predicate_of (predicate.OpensAnyDeclaration l) = opens_any_declaration l
predicate_of predicate.OpensExportAssignment = opens_export_assignment

-- a modifier of the run stands at a place
abbrev pub modifier_of : Modifiers → Predicate
modifier_of modifiers.OfMember = opens_modifier
modifier_of (modifiers.OfParameter c) = opens_parameter_modifier c

-- a declaration of TypeScript begins here, or one with `declare` or `abstract`
abbrev pub heads_typed : Predicate
heads_typed K at =
    opens_enum K at || (opens_declare K at || (opens_abstract_class K at || (opens_interface K at || (opens_alias K at
    || (opens_namespace K at || (opens_module K at || opens_global K at))))))
