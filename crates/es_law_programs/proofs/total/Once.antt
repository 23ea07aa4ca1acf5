-- Behind the arguments of a type's name no further ones begin: the predicate that opens them is the one that ends them.
use Rattle.std.specs.Prelude.{Bool, true, false, not, ◌&&◌}
use Rattle.std.proofs.Common.{◌≡◌, refl}
use Rattle.es_token.specs.declared.token.TokenKind.{TokenKind}
use Rattle.es_token.specs.declared.token.TokenKind.TheVariants as k
use Rattle.grammar_theory.specs.declared.error.Lang.{Lang}
use Rattle.grammar_theory.specs.Productions.{Predict, Rhs, Production, refuse, make, choose, as_, pick, wrap}
use Rattle.grammar_theory.proofs.Progress.{both_hold}
use Rattle.grammar_theory.proofs.OutLemmas.{clash}
use Rattle.es_grammar.specs.declared.types.rows.TypeRow.{TypeRow as Types}
use Rattle.es_grammar.specs.declared.types.rows.TypeRow.TheVariants.{TypeRow, IntersectionRow, OperandRow, ReferenceRow, EntityRow, ImportRow, ArgumentsRow, TypeParametersRow, OpenedFunctionRow, OpenedParametersRow, ElementRow, MemberRow, KeyRow, ResultRow, ParametersRow, ParameterRow, PatternRow, PatternElementRow, PatternPropertyRow, PatternKeyRow}
use Rattle.es_grammar.specs.types.TypeRows.{NodeKind as Alternative}
use Rattle.es_grammar.specs.types.Words.{only, is_name, is_name_or_this}
use Rattle.es_grammar.specs.types.TypeNames.{entity, opens_arguments, no_arguments, reference, import_type, arguments, type_parameters, opened_function, opened_parameters}
use Rattle.es_grammar.specs.types.Parameters.{parameters, name_pattern, array_pattern, object_pattern, pattern, parameter, pattern_element, pattern_key, pattern_property}
use Rattle.es_grammar.specs.types.Members.{call_signature, construct_signature, index_signature, accessor_signature, method_signature, property_signature, readonly_property, member, computed_key, key}
use Rattle.es_grammar.specs.types.Types.{parenthesized_type, members_type, mapped_type, tuple_type, type_query, template_types, number_type, primary_type, array_types, operand_type, intersection_type, union_type, conditional_type, function_type, constructor_type, any_type, element, result}
use Rattle.es_grammar.specs.types.TypeTable.{type_rule}
use Rattle.es_grammar.specs.declared.rows.Row.{Row}
use Rattle.es_grammar.specs.declared.rows.Row.TheVariants.{TypesRow}
use Rattle.es_grammar.specs.declared.rows.NodeKind.{NodeKind}
use Rattle.es_grammar.specs.Embedding.{types_rule}
use Rattle.es_grammar.specs.Table.{rule}
use Rattle.es_law_programs.proofs.total.Sound.{never_true}
use Rattle.es_law_programs.proofs.total.Rules.{IfShut, Shuts}
use Rattle.es_law_programs.proofs.total.Rows.{is_reference, shut}

-- ---- rules with no such node, of which nothing is asked
if_bare : (b : Bool) (c : Predict) (f : Rhs Row) → not b ≡ true → IfShut b c f
if_bare true c f e = clash e
if_bare false c f e = tt

abbrev is_bare : Production Row NodeKind → Bool
is_bare refuse = true
is_bare (make l f) = true
is_bare (choose t a b) = is_bare a && is_bare b
is_bare (as_ w a) = is_bare a
is_bare (pick g a b) = is_bare a && is_bare b
is_bare (wrap l a c f) = is_bare a && not (is_reference l)

bare : (a : Production Row NodeKind) → is_bare a ≡ true → Shuts is_reference a
bare refuse e = tt
bare (make l f) e = tt
bare (choose t a b) e = let both = both_hold (is_bare a) (is_bare b) e in (bare a both.0, bare b both.1)
bare (as_ w a) e = bare a e
bare (pick g a b) e = let both = both_hold (is_bare a) (is_bare b) e in (bare a both.0, bare b both.1)
bare (wrap l a c f) e =
    let both = both_hold (is_bare a) (not (is_reference l)) e in
    (bare a both.0, if_bare (is_reference l) c f both.1)

nothing : (a : Production Row NodeKind) → Shuts (λ label. false) a
nothing refuse = tt
nothing (make l f) = tt
nothing (choose t a b) = (nothing a, nothing b)
nothing (as_ w a) = nothing a
nothing (pick g a b) = (nothing a, nothing b)
nothing (wrap l a c f) = (nothing a, tt)

-- ---- types
abbrev Once : Production Types Alternative → Type 0
Once a = Shuts is_reference (types_rule a)

named : (may : TokenKind → Bool) → Once (reference may)
unfolding reference entity no_arguments
named may = (tt, λ K at opens ends. never_true (opens_arguments K at) ends.0 opens)

primary : Once primary_type
unfolding primary_type parenthesized_type members_type mapped_type tuple_type type_query import_type template_types
    number_type
primary = (
  tt,
  (
    (tt, tt),
    (
      tt,
      (
        tt,
        (
          tt,
          (
            (named (only k.ThisWord), tt),
            ((tt, named is_name), (tt, (tt, (tt, (tt, tt))))),
          ),
        ),
      ),
    ),
  ),
)

arrays : Once array_types
unfolding array_types
arrays = (primary, tt)

operand : Once operand_type
unfolding operand_type
operand = (tt, (tt, arrays))

intersection : Once intersection_type
unfolding intersection_type
intersection = (tt, (operand, tt))

union : Once union_type
unfolding union_type
union = (tt, (intersection, tt))

conditional : (c : Bool) → Once (conditional_type c)
unfolding conditional_type
conditional true = (union, tt)
conditional false = union

any : (c : Bool) → Once (any_type c)
unfolding any_type function_type constructor_type
any c = (tt, (tt, conditional c))

types_once : (r : Types) → Once (type_rule r)
unfolding type_rule element result entity import_type arguments type_parameters opened_function opened_parameters
    call_signature construct_signature index_signature accessor_signature method_signature property_signature
    readonly_property member computed_key key parameters name_pattern array_pattern object_pattern pattern parameter
    pattern_element pattern_key pattern_property
types_once (TypeRow c) = any c
types_once IntersectionRow = intersection
types_once OperandRow = operand
types_once ReferenceRow = named is_name_or_this
types_once EntityRow = bare (types_rule (type_rule EntityRow)) refl
types_once ImportRow = bare (types_rule (type_rule ImportRow)) refl
types_once ArgumentsRow = bare (types_rule (type_rule ArgumentsRow)) refl
types_once TypeParametersRow = bare (types_rule (type_rule TypeParametersRow)) refl
types_once OpenedFunctionRow = bare (types_rule (type_rule OpenedFunctionRow)) refl
types_once OpenedParametersRow = bare (types_rule (type_rule OpenedParametersRow)) refl
types_once ElementRow = (tt, (tt, (any true, tt)))
types_once MemberRow = bare (types_rule (type_rule MemberRow)) refl
types_once KeyRow = bare (types_rule (type_rule KeyRow)) refl
types_once (ResultRow c) = (tt, (tt, any c))
types_once ParametersRow = bare (types_rule (type_rule ParametersRow)) refl
types_once ParameterRow = bare (types_rule (type_rule ParameterRow)) refl
types_once PatternRow = bare (types_rule (type_rule PatternRow)) refl
types_once PatternElementRow = bare (types_rule (type_rule PatternElementRow)) refl
types_once PatternPropertyRow = bare (types_rule (type_rule PatternPropertyRow)) refl
types_once PatternKeyRow = bare (types_rule (type_rule PatternKeyRow)) refl

pub row_shuts : (l : Lang) (r : Row) → Shuts (shut r) (rule l r)
unfolding rule
row_shuts l (TypesRow r) = types_once r
row_shuts l r = nothing (rule l r)
