-- What is claimed of the rows of programs: the tokens that may begin one, those that may follow one, and whether it
-- always takes a token.
use Rattle.std.specs.Prelude.{Bool, true, false, ◌||◌, if◌then◌else◌}
use Rattle.es_token.specs.declared.token.TokenKind.TheVariants as k
use Rattle.grammar_theory.specs.declared.error.Lang.{Lang}
use Rattle.grammar_theory.specs.Languages.{typed, asserts}
use Rattle.grammar_theory.specs.Key.{TokenTest, is, is_end, is_token, has_kind}
use Rattle.grammar_theory.specs.Tells.{Sets}
use Rattle.es_grammar.specs.types.Words.{is_name, is_word, is_name_or_this, is_numeric, begins_key}
use Rattle.es_grammar.specs.declared.types.rows.TypeRow.{TypeRow}
use Rattle.es_grammar.specs.declared.types.rows.TypeRow.TheVariants as types
use Rattle.es_grammar.specs.types.Types.{begins_type}
use Rattle.es_grammar.specs.types.TypeNames.{begins_angle, begins_type_parameter}
use Rattle.es_grammar.specs.types.Members.{opens_parameters}
use Rattle.es_grammar.specs.types.Expressions.{is_prefix, is_update, is_literal_word, begins_member, begins_post}
use Rattle.es_grammar.specs.types.Statements.{is_variable_word}
use Rattle.es_grammar.specs.declared.rows.Row.{Row}
use Rattle.es_grammar.specs.declared.rows.Row.TheVariants.{ModuleRow, ScriptRow, ItemRow, ClauseRow, NamedRow, ImportSpecifierRow, ExportSpecifierRow, AttributesRow, EntityRow, StatementRow, BlockRow, DeclarationRow, DeclaredRow, VariablesRow, DeclaratorRow, UsingRow, HeadRow, HeadPatternRow, FunctionRow, ClassRow, SignatureRow, ParametersRow, ParameterRow, PatternRow, InnerPatternRow, PatternElementRow, PatternPropertyRow, MemberRow, PropertyRow, KeyRow, ExpressionRow, AssignmentRow, AndRow, BitOrRow, BitXorRow, BitAndRow, EqualityRow, RelationRow, RightRow, ShiftRow, SumRow, ProductRow, PowerRow, UnaryRow, ChainRow, CalleeRow, PostRow, MemberPostRow, ArgumentsRow, ElementRow, TemplateRow, TypesRow}
use Rattle.es_grammar.specs.Expressions.{begins_value, begins_parameters, opens_non_null}

-- a token that can begin a chain, and one that can begin a pattern
abbrev begins_chain : TokenTest
begins_chain x =
    has_kind is_name x || (has_kind is_numeric x || (is k.Str x || (is k.RegExp x || (is k.TemplateWhole x
    || (is k.TemplateHead x || (is k.OpenParen x || (is k.OpenBracket x || (is k.OpenBrace x
    || (has_kind is_literal_word x
    || (is k.FunctionWord x || (is k.ClassWord x || (is k.SuperWord x || (is k.ImportWord x
    || is k.NewWord x)))))))))))))

abbrev begins_pattern : TokenTest
begins_pattern x = has_kind is_name x || (is k.OpenBracket x || is k.OpenBrace x)

-- a token that can begin an operand of an operator
abbrev begins_operand : Lang → TokenTest
begins_operand l x =
    begins_chain x || (has_kind is_prefix x || (has_kind is_update x || (is k.AwaitWord x
    || (if asserts l then is k.Less x else false))))

-- one in TypeScript alone
abbrev if_typed : Lang → TokenTest → TokenTest
if_typed l t x = if typed l then t x else false

-- a token that begins a statement of its own
abbrev begins_keyword : Lang → TokenTest
begins_keyword l x =
    has_kind is_variable_word x || (is k.IfWord x || (is k.ForWord x || (is k.WhileWord x || (is k.DoWord x
    || (is k.ContinueWord x || (is k.BreakWord x || (is k.ReturnWord x || (is k.ThrowWord x || (is k.SwitchWord x
    || (is k.TryWord x || (is k.DebuggerWord x || (is k.WithWord x || (is k.Semicolon x
    || if_typed l (is k.EnumWord) x)))))))))))))

-- a token that begins a declaration, and one that begins one of TypeScript
abbrev begins_typed_declaration : TokenTest
begins_typed_declaration x =
    is k.EnumWord x || (is k.DeclareWord x || (is k.AbstractWord x || (is k.InterfaceWord x || (is k.TypeWord x
    || (is k.NamespaceWord x || (is k.ModuleWord x || is k.GlobalWord x))))))

abbrev begins_declaration : TokenTest → TokenTest
begins_declaration other x =
    has_kind is_variable_word x || (is k.FunctionWord x || (is k.ClassWord x || (is k.UsingWord x
    || (is k.AwaitWord x || (is k.AsyncWord x || other x)))))

-- the tokens that may begin a row of types
abbrev first_of_types : TypeRow → TokenTest
first_of_types (types.TypeRow c) x = begins_type x
first_of_types types.IntersectionRow x = begins_type x
first_of_types types.OperandRow x = begins_type x
first_of_types types.ReferenceRow x = has_kind is_name_or_this x
first_of_types types.EntityRow x = has_kind is_name_or_this x
first_of_types types.ImportRow x = is k.ImportWord x
first_of_types types.ArgumentsRow x = begins_angle x
first_of_types types.TypeParametersRow x = is k.Less x
first_of_types types.OpenedFunctionRow x = begins_type_parameter x
first_of_types types.OpenedParametersRow x = begins_type_parameter x
first_of_types types.ElementRow x = is k.Ellipsis x || (has_kind is_word x || begins_type x)
first_of_types types.MemberRow x = opens_parameters x || begins_key x
first_of_types types.KeyRow x = begins_key x
first_of_types (types.ResultRow c) x = begins_type x
first_of_types types.ParametersRow x = is k.ThisWord x || (is k.Ellipsis x || begins_pattern x)
first_of_types types.ParameterRow x = is k.ThisWord x || begins_pattern x
first_of_types types.PatternRow x = begins_pattern x
first_of_types types.PatternElementRow x = is k.Ellipsis x || begins_pattern x
first_of_types types.PatternPropertyRow x =
    is k.Ellipsis x || (has_kind is_word x || (is k.Str x || has_kind is_numeric x))
first_of_types types.PatternKeyRow x = has_kind is_word x || (is k.Str x || has_kind is_numeric x)

-- the tokens that may begin a row
abbrev pub first : Lang → Row → TokenTest
first l ModuleRow x = is_token x
first l ScriptRow x = is_token x
first l (ItemRow c) x = is k.ExportWord x || (begins_value l x || begins_keyword l x)
first l ClauseRow x = has_kind is_name x || (is k.Star x || is k.OpenBrace x)
first l NamedRow x = is k.Star x || is k.OpenBrace x
first l ImportSpecifierRow x = has_kind is_word x || is k.Str x
first l ExportSpecifierRow x = has_kind is_word x || is k.Str x
first l AttributesRow x = is k.WithWord x
first l EntityRow x = has_kind is_name_or_this x
first l (StatementRow c) x = begins_value l x || begins_keyword l x
first l (BlockRow c) x = is k.OpenBrace x
first l (DeclarationRow c) x = begins_declaration (if_typed l begins_typed_declaration) x
first l (DeclaredRow c) x = begins_declaration begins_typed_declaration x
first l (VariablesRow c) x = has_kind is_variable_word x
first l (DeclaratorRow c) x = begins_pattern x
first l (UsingRow c) x = is k.UsingWord x || is k.AwaitWord x
first l (HeadRow c) x = begins_chain x || (has_kind is_variable_word x || is k.AwaitWord x)
first l (HeadPatternRow c) x = begins_pattern x
first l (FunctionRow named c) x = is k.FunctionWord x || is k.AsyncWord x
first l (ClassRow named c) x = is k.ClassWord x || if_typed l (is k.AbstractWord) x
first l (SignatureRow c) x = begins_parameters l x
first l (ParametersRow c) x = is k.Ellipsis x || (begins_pattern x || if_typed l (is k.ThisWord) x)
first l (ParameterRow c) x = begins_pattern x || if_typed l (is k.ThisWord) x
first l (PatternRow true c) x = is k.OpenBracket x || is k.OpenBrace x
first l (PatternRow false c) x = begins_pattern x
first l (InnerPatternRow true c) x = begins_chain x
first l (InnerPatternRow false c) x = begins_pattern x
first l (PatternElementRow true c) x = is k.Ellipsis x || begins_chain x
first l (PatternElementRow false c) x = is k.Ellipsis x || begins_pattern x
first l (PatternPropertyRow t c) x = is k.Ellipsis x || begins_key x
first l (MemberRow c) x = is k.Semicolon x || (is k.Star x || (is k.PrivateName x || begins_key x))
first l (PropertyRow c) x = is k.Ellipsis x || (is k.Star x || begins_key x)
first l (KeyRow true c) x = is k.PrivateName x || begins_key x
first l (KeyRow false c) x = begins_key x
first l (ExpressionRow c) x = begins_value l x
first l (AssignmentRow c) x = begins_value l x
first l (AndRow c) x = begins_operand l x || is k.PrivateName x
first l (BitOrRow c) x = begins_operand l x || is k.PrivateName x
first l (BitXorRow c) x = begins_operand l x || is k.PrivateName x
first l (BitAndRow c) x = begins_operand l x || is k.PrivateName x
first l (EqualityRow c) x = begins_operand l x || is k.PrivateName x
first l (RelationRow c) x = begins_operand l x || is k.PrivateName x
first l (RightRow c) x = begins_operand l x
first l (ShiftRow c) x = begins_operand l x
first l (SumRow c) x = begins_operand l x
first l (ProductRow c) x = begins_operand l x
first l (PowerRow c) x = begins_operand l x
first l (UnaryRow c) x = begins_operand l x
first l (ChainRow c) x = begins_chain x
first l (CalleeRow c) x = begins_chain x
first l (PostRow c) x = begins_post x || if_typed l (λ y. opens_non_null y || begins_angle y) x
first l (MemberPostRow c) x = begins_member x || if_typed l opens_non_null x
first l (ArgumentsRow c) x = is k.OpenParen x
first l (ElementRow c) x = is k.Ellipsis x || begins_value l x
first l (TemplateRow c) x = is k.TemplateWhole x || is k.TemplateHead x
first l (TypesRow r) x = first_of_types r x

-- the tokens that may follow a row, where a list at its end is told by them; any token may follow the others
abbrev pub follow : Row → TokenTest
follow ModuleRow x = is_end x
follow ScriptRow x = is_end x
follow (ParametersRow c) x = is k.CloseParen x
follow (TypesRow types.ParametersRow) x = is k.CloseParen x
follow r x = true

-- the rows that always take a token
abbrev pub solid : Row → Bool
solid ModuleRow = false
solid ScriptRow = false
solid (ParametersRow c) = false
solid (TypesRow types.ParametersRow) = false
solid r = true

abbrev pub sets : Lang → Sets Row
sets l = record { first = first l; follow = follow; solid = solid }
