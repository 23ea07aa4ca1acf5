-- The tests and predicates of the tables that are named by a value, and what each is.
use Rattle.std.specs.Prelude.{Bool, true}
use Rattle.es_token.specs.declared.token.TokenKind.{TokenKind}
use Rattle.grammar_theory.specs.Key.{TokenTest, has_kind, is, is_token}
use Rattle.grammar_theory.specs.Productions.{Predicate}
use Rattle.es_grammar.specs.types.Words.{only, is_other, is_name, is_word, is_name_or_this, is_numeric, is_accessor_word, is_near}
use Rattle.es_grammar.specs.types.Modules.{may_end, opens_type_import, opens_type_name, is_renamed, is_no_type_as_as, has_comma, opens_equals, opens_require, opens_bare, opens_source_import, opens_defer_import, opens_type_export, opens_all, opens_exported_equals, opens_exported_require, opens_namespace}
use Rattle.es_grammar.specs.types.Expressions.{is_prefix, is_update, is_product, is_sum, is_equality, is_relation, is_assignment, is_property_name, is_literal_word, no_arrow, follows_super, begins_member, begins_post, is_update_here, no_update_here, no_mix, is_operand, opens_async_parenthesis, is_no_arrow_head, opens_async_function, opens_property, has_argument, opens_source_call, opens_defer_call, opens_shift, opens_arrow, opens_async_arrow, opens_pattern, opens_assignment, is_module, may_await, may_test, opens_relation, joins}
use Rattle.es_grammar.specs.types.Functions.{is_parameter, opens_inner_pattern, opens_value, is_plain_key, opens_method, opens_accessor, opens_async, opens_star}
use Rattle.es_grammar.specs.types.Classes.{opens_static, is_plain_member, opens_static_block, behind_static, opens_field_accessor}
use Rattle.es_grammar.specs.types.Statements.{is_variable_word, is_label_here, is_value_here, is_case, is_in_case, begins_no_other, opens_using, opens_for, opens_for_await, opens_head_pattern, starts_using, starts_expression, opens_label, is_script}
use Rattle.es_grammar.specs.types.Items.{opens_import, opens_default, opens_default_function, opens_default_class, opens_declaration}
use Rattle.es_lookahead.specs.declared.named.Kinds.{Kinds}
use Rattle.es_lookahead.specs.declared.named.Kinds.TheVariants as kinds
use Rattle.es_lookahead.specs.declared.named.Lookahead.{Lookahead}
use Rattle.es_lookahead.specs.declared.named.Lookahead.TheVariants as lookahead
use Rattle.es_lookahead.specs.declared.named.Predicate.{Predicate as NamedPredicate}
use Rattle.es_lookahead.specs.declared.named.Predicate.TheVariants as predicate

-- the kinds of tokens that are named
abbrev pub kinds_of : Kinds → TokenKind → Bool
kinds_of (kinds.Only kind) = only kind
kinds_of kinds.Name = is_name
kinds_of kinds.Word = is_word
kinds_of kinds.NameOrThis = is_name_or_this
kinds_of kinds.Numeric = is_numeric
kinds_of kinds.AccessorWord = is_accessor_word
kinds_of kinds.Prefix = is_prefix
kinds_of kinds.Update = is_update
kinds_of kinds.Product = is_product
kinds_of kinds.Sum = is_sum
kinds_of kinds.Equality = is_equality
kinds_of kinds.Relation = is_relation
kinds_of kinds.Assignment = is_assignment
kinds_of kinds.PropertyName = is_property_name
kinds_of kinds.LiteralWord = is_literal_word
kinds_of kinds.VariableWord = is_variable_word

-- the test of the next token that is named
abbrev pub lookahead_of : Lookahead → TokenTest
lookahead_of (lookahead.Is kind) = is kind
lookahead_of (lookahead.Other kind) = is_other kind
lookahead_of (lookahead.Has named) = has_kind (kinds_of named)
lookahead_of lookahead.Near = is_near
lookahead_of lookahead.Token = is_token
lookahead_of lookahead.MayEnd = may_end
lookahead_of lookahead.NoArrow = no_arrow
lookahead_of lookahead.FollowsSuper = follows_super
lookahead_of lookahead.BeginsMember = begins_member
lookahead_of lookahead.BeginsPost = begins_post
lookahead_of lookahead.UpdateHere = is_update_here
lookahead_of lookahead.NoUpdateHere = no_update_here
lookahead_of lookahead.NoMix = no_mix
lookahead_of lookahead.Operand = is_operand
lookahead_of lookahead.Parameter = is_parameter
lookahead_of lookahead.LabelHere = is_label_here
lookahead_of lookahead.ValueHere = is_value_here
lookahead_of lookahead.Case = is_case
lookahead_of lookahead.InCase = is_in_case
lookahead_of lookahead.BeginsNoOther = begins_no_other

-- the predicate that is named
abbrev pub predicate_of : NamedPredicate → Predicate
predicate_of (predicate.OpensTypeImport l) = opens_type_import l
predicate_of (predicate.OpensTypeName l) = opens_type_name l
predicate_of (predicate.IsRenamed l) = is_renamed l
predicate_of predicate.IsNoTypeAsAs = is_no_type_as_as
predicate_of predicate.HasComma = has_comma
predicate_of (predicate.OpensEquals l) = opens_equals l
predicate_of (predicate.OpensRequire l) = opens_require l
predicate_of predicate.OpensBare = opens_bare
predicate_of predicate.OpensSourceImport = opens_source_import
predicate_of predicate.OpensDeferImport = opens_defer_import
predicate_of (predicate.OpensTypeExport l) = opens_type_export l
predicate_of (predicate.OpensAll l) = opens_all l
predicate_of (predicate.OpensExportedEquals l) = opens_exported_equals l
predicate_of (predicate.OpensExportedRequire l) = opens_exported_require l
predicate_of (predicate.OpensNamespace l) = opens_namespace l
predicate_of predicate.OpensImport = opens_import
predicate_of predicate.OpensDefault = opens_default
predicate_of predicate.OpensDefaultFunction = opens_default_function
predicate_of predicate.OpensDefaultClass = opens_default_class
predicate_of predicate.OpensDeclaration = opens_declaration
predicate_of predicate.OpensUsing = opens_using
predicate_of predicate.OpensFor = opens_for
predicate_of predicate.OpensForAwait = opens_for_await
predicate_of predicate.OpensHeadPattern = opens_head_pattern
predicate_of predicate.StartsUsing = starts_using
predicate_of predicate.StartsExpression = starts_expression
predicate_of predicate.OpensLabel = opens_label
predicate_of (predicate.IsScript c) = is_script c
predicate_of predicate.OpensInnerPattern = opens_inner_pattern
predicate_of predicate.OpensValue = opens_value
predicate_of predicate.IsPlainKey = is_plain_key
predicate_of predicate.OpensMethod = opens_method
predicate_of (predicate.OpensAccessor p) = opens_accessor p
predicate_of (predicate.OpensAsync p) = opens_async p
predicate_of predicate.OpensStatic = opens_static
predicate_of predicate.IsPlainMember = is_plain_member
predicate_of predicate.OpensStaticBlock = opens_static_block
predicate_of predicate.BehindStaticAccessor = behind_static (opens_accessor true)
predicate_of predicate.BehindStaticAsync = behind_static (opens_async true)
predicate_of predicate.BehindStaticStar = behind_static opens_star
predicate_of predicate.BehindStaticFieldAccessor = behind_static opens_field_accessor
predicate_of predicate.BehindStaticMethod = behind_static opens_method
predicate_of predicate.OpensAsyncParenthesis = opens_async_parenthesis
predicate_of predicate.IsNoArrowHead = is_no_arrow_head
predicate_of predicate.OpensAsyncFunction = opens_async_function
predicate_of predicate.OpensProperty = opens_property
predicate_of predicate.HasArgument = has_argument
predicate_of predicate.OpensSourceCall = opens_source_call
predicate_of predicate.OpensDeferCall = opens_defer_call
predicate_of predicate.OpensShift = opens_shift
predicate_of predicate.OpensArrow = opens_arrow
predicate_of predicate.OpensAsyncArrow = opens_async_arrow
predicate_of predicate.OpensPattern = opens_pattern
predicate_of predicate.OpensAssignment = opens_assignment
predicate_of (predicate.IsModule c) = is_module c
predicate_of (predicate.MayAwait c) = may_await c
predicate_of (predicate.MayTest c) = may_test c
predicate_of (predicate.OpensRelation c) = opens_relation c
predicate_of (predicate.Joins kind) = joins kind
