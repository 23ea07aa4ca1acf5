-- The tests and predicates of the types' table that are named by a value, and what each is.
use Rattle.std.specs.Prelude.{Bool}
use Rattle.es_token.specs.declared.token.TokenKind.{TokenKind}
use Rattle.grammar_theory.specs.Key.{TokenTest, has_kind, is}
use Rattle.grammar_theory.specs.Productions.{Predicate}
use Rattle.es_grammar.specs.types.Words.{only, is_other, is_name, is_word, is_name_or_this, is_numeric, is_sign, is_accessor_word, is_near}
use Rattle.es_grammar.specs.types.TypeNames.{begins_type_parameter, opens_arguments, no_arguments, opens_angle, is_modifier, opens_modifier}
use Rattle.es_grammar.specs.types.Parameters.{is_parameter, has_mark, no_mark, opens_value}
use Rattle.es_grammar.specs.types.Members.{is_separator, may_separate, opens_parameters, opens_construct, opens_readonly, opens_index, opens_accessor, opens_method, is_property_key}
use Rattle.es_grammar.specs.types.Types.{is_literal_word, begins_type, opens_mapped, begins_signed, opens_this_reference, is_type_word, is_keyword_type, opens_brackets, is_type_operator, opens_operator, opens_infer, opens_condition, no_condition, opens_function, opens_constructor, is_label, opens_asserts, opens_predicate}
use Rattle.es_type_rules.specs.declared.predicates.named.Kinds.{Kinds}
use Rattle.es_type_rules.specs.declared.predicates.named.Kinds.TheVariants as kinds
use Rattle.es_type_rules.specs.declared.predicates.named.Lookahead.{Lookahead}
use Rattle.es_type_rules.specs.declared.predicates.named.Lookahead.TheVariants as lookahead
use Rattle.es_type_rules.specs.declared.predicates.named.Predicate.{Predicate as NamedPredicate}
use Rattle.es_type_rules.specs.declared.predicates.named.Predicate.TheVariants as predicate

-- the kinds of tokens that are named
abbrev pub kinds_of : Kinds → TokenKind → Bool
kinds_of (kinds.Only kind) = only kind
kinds_of kinds.Name = is_name
kinds_of kinds.Word = is_word
kinds_of kinds.NameOrThis = is_name_or_this
kinds_of kinds.Numeric = is_numeric
kinds_of kinds.Sign = is_sign
kinds_of kinds.AccessorWord = is_accessor_word
kinds_of kinds.LiteralWord = is_literal_word
kinds_of kinds.TypeWord = is_type_word
kinds_of kinds.TypeOperator = is_type_operator
kinds_of kinds.Modifier = is_modifier
kinds_of kinds.Separator = is_separator

-- the test of the next token that is named
abbrev pub lookahead_of : Lookahead → TokenTest
lookahead_of (lookahead.Is kind) = is kind
lookahead_of (lookahead.Other kind) = is_other kind
lookahead_of (lookahead.Has named) = has_kind (kinds_of named)
lookahead_of (lookahead.Signed kind) = begins_signed kind
lookahead_of lookahead.Near = is_near
lookahead_of lookahead.BeginsType = begins_type
lookahead_of lookahead.BeginsTypeParameter = begins_type_parameter
lookahead_of lookahead.OpensBrackets = opens_brackets
lookahead_of lookahead.OpensCondition = opens_condition
lookahead_of lookahead.NoCondition = no_condition
lookahead_of lookahead.Parameter = is_parameter
lookahead_of lookahead.HasMark = has_mark
lookahead_of lookahead.NoMark = no_mark
lookahead_of lookahead.MaySeparate = may_separate
lookahead_of lookahead.OpensParameters = opens_parameters

-- the predicate that is named
abbrev pub predicate_of : NamedPredicate → Predicate
predicate_of predicate.OpensModifier = opens_modifier
predicate_of predicate.OpensArguments = opens_arguments
predicate_of predicate.NoArguments = no_arguments
predicate_of predicate.OpensAngle = opens_angle
predicate_of predicate.OpensValue = opens_value
predicate_of predicate.OpensConstruct = opens_construct
predicate_of predicate.OpensReadonly = opens_readonly
predicate_of predicate.OpensIndex = opens_index
predicate_of predicate.OpensAccessor = opens_accessor
predicate_of predicate.OpensMethod = opens_method
predicate_of predicate.IsPropertyKey = is_property_key
predicate_of predicate.OpensMapped = opens_mapped
predicate_of predicate.OpensThisReference = opens_this_reference
predicate_of predicate.IsKeywordType = is_keyword_type
predicate_of predicate.OpensOperator = opens_operator
predicate_of predicate.OpensInfer = opens_infer
predicate_of predicate.OpensFunction = opens_function
predicate_of predicate.OpensConstructor = opens_constructor
predicate_of predicate.IsLabel = is_label
predicate_of predicate.OpensAsserts = opens_asserts
predicate_of predicate.OpensPredicate = opens_predicate
