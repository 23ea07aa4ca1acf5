-- What types, elements of tuples and results of functions become.
use Rattle.std.specs.Prelude.{ℕ, ◌+◌, Bool, true, false, List, [], ◌∷◌, ◌++◌, Option, Some, None, option_map, if◌then◌else◌}
use Rattle.base.specs.declared.range.Range.{Range}
use Rattle.es_token.specs.declared.token.Token.{Token}
use Rattle.es_token.specs.declared.token.TokenKind.{TokenKind}
use Rattle.es_token.specs.declared.token.TokenKind.TheVariants as k
use Rattle.grammar_theory.specs.Key.{same_kind}
use Rattle.es_ast.specs.declared.ts.leaf.Ident.{Ident}
use Rattle.es_ast.specs.declared.ts.leaf.TsLit.TheVariants as vLit
use Rattle.es_ast.specs.declared.ts.ts.TsType.{TsType}
use Rattle.es_ast.specs.declared.ts.ts.TsType.TheVariants as vType
use Rattle.es_ast.specs.declared.ts.ts.TsTupleElement.{TsTupleElement, roll-TsTupleElement}
use Rattle.es_lowering.specs.Value.{given, Value, more, part, as_group, group, behind, optional, is_there, turns, type_at, element_at, type_member_at, type_params_at, fn_params_at}
use Rattle.es_lowering.specs.Texts.{end_before, token_at, kind_at, ident_at, this_or_name_at, str_at, piece_there}
use Rattle.es_lowering.specs.Operators.{listed}
use Rattle.es_lowering.specs.TypeTexts.{marked, numeric_lit, keyword_kinds, type_operators, signed_in}
use Rattle.es_lowering.specs.TypeNames.{types_from}

-- ---- words and literals
unfoldable pub keyword_type : List Token → Range → Value → Option TsType
keyword_type ts r p = given (given (kind_at ts p 0) (listed keyword_kinds)) (λ kind. Some (vType.Keyword kind r))

-- `null`, `void`, `true`, `false`
unfoldable pub word_of : Range → TokenKind → Option TsType
word_of r kind =
    if same_kind kind k.TrueWord then Some (vType.Lit (vLit.Bool true r))
    else (if same_kind kind k.FalseWord then Some (vType.Lit (vLit.Bool false r))
    else option_map (λ kind. vType.Keyword kind r) (listed keyword_kinds kind))

unfoldable pub word_type : List Token → Range → Value → Option TsType
word_type ts r p = given (kind_at ts p 0) (word_of r)

unfoldable pub str_type : List ℕ → List Token → Value → Option TsType
str_type x ts p = option_map (λ s. vType.Lit (vLit.Str s)) (str_at x ts p 0)

unfoldable pub number_type : List ℕ → List Token → Range → Value → Option TsType
number_type x ts r p =
    option_map vType.Lit (given (token_at ts p 1) (numeric_lit x (is_there (group p 0)) r))

unfoldable pub template_type : List ℕ → List Token → Range → Value → Option TsType
template_type x ts r p = option_map (λ piece. vType.Tpl (piece ∷ []) [] r) (piece_there x ts p 0)

unfoldable pub template_types : List ℕ → List Token → Range → Value → Option TsType
template_types x ts r p =
    given (piece_there x ts p 0) (λ head.
    given (type_at p 1) (λ first.
    given (turns (λ turn. piece_there x ts turn 0) (group p 2)) (λ middles.
    given (turns (λ turn. type_at turn 1) (group p 2)) (λ others.
    given (piece_there x ts p 3) (λ tail.
    Some (vType.Tpl (head ∷ (middles ++ tail ∷ [])) (first ∷ others) r))))))

-- ---- in brackets
unfoldable pub parenthesized_type : Range → Value → Option TsType
parenthesized_type r p = option_map (λ ty. vType.Paren ty r) (type_at p 0)

unfoldable pub members_type : Range → Value → Option TsType
members_type r p = option_map (λ members. vType.TypeLit members r) (turns (λ turn. type_member_at turn 0) (group p 0))

unfoldable pub tuple_type : Range → Value → Option TsType
tuple_type r p = option_map (λ elems. vType.Tuple elems r) (turns (λ turn. element_at turn 0) (group p 0))

unfoldable pub type_query : Range → Value → Option TsType
type_query r p = option_map (λ ty. vType.Query ty r) (type_at (group p 0) 0)

unfoldable pub mapped_type : List ℕ → List Token → Range → Value → Option TsType
mapped_type x ts r p =
    given (signed_in ts (group p 0)) (λ readonly.
    given (ident_at x ts p 1) (λ name.
    given (type_at p 2) (λ constraint.
    given (optional type_at (group p 3)) (λ name_type.
    given (signed_in ts (group p 4)) (λ optional_mark.
    given (optional type_at (group p 5)) (λ ty.
    Some (vType.Mapped readonly name constraint name_type optional_mark ty r)))))))

-- ---- operators
-- `[ ]` and `[ Type ]` behind a type, from the left: each spans all up to its `]`. Each hands on where the next `[` stands
abbrev pub indexed : List Token → ℕ → ℕ → TsType → Option TsType → TsType
indexed ts start end ty None = vType.Array ty (record { start = start; end = end_before ts end })
indexed ts start end ty (Some index) = vType.IndexedAccess ty index (record { start = start; end = end_before ts end })

-- the token behind the `]` of a group that stands at this token
abbrev pub bracket_end : ℕ → Value → ℕ
bracket_end at (more v vs) = behind v + 1
bracket_end at _ = at + 2

abbrev pub indexes : List Token → ℕ → ℕ → TsType → Value → Option TsType
indexes ts start at ty (more v vs) =
    given (optional type_at (group (as_group v) 0)) (λ index.
    indexes ts start (bracket_end at (group (as_group v) 0))
    (indexed ts start (bracket_end at (group (as_group v) 0)) ty index) vs)
indexes ts start at ty _ = Some ty

unfoldable pub array_types : List Token → Range → Value → Option TsType
array_types ts r p =
    given (type_at p 0) (λ ty.
    given (optional type_at (group p 1)) (λ index.
    indexes ts r.start (bracket_end (behind (part p 0)) (group p 1))
    (indexed ts r.start (bracket_end (behind (part p 0)) (group p 1)) ty index) (group p 2)))

unfoldable pub type_operator : List Token → Range → Value → Option TsType
type_operator ts r p =
    given (given (kind_at ts p 0) (listed type_operators)) (λ op.
    given (type_at p 1) (λ ty. Some (vType.Operator op ty r)))

unfoldable pub infer_type : List ℕ → List Token → Range → Value → Option TsType
infer_type x ts r p = option_map (λ name. vType.Infer name r) (ident_at x ts p 0)

-- operands of `|` or `&`, the first before its operator, or behind one too
abbrev pub operands : Value → Option (List TsType)
operands p =
    given (type_at p 0) (λ first.
    given (type_at p 1) (λ second.
    given (turns (λ turn. type_at turn 0) (group p 2)) (λ rest. Some (first ∷ second ∷ rest))))

unfoldable pub union_type : Range → Value → Option TsType
union_type r p = option_map (λ types. vType.Union types r) (operands p)

unfoldable pub leading_union_type : Range → Value → Option TsType
leading_union_type r p = option_map (λ types. vType.Union types r) (types_from p 0)

unfoldable pub intersection_type : Range → Value → Option TsType
intersection_type r p = option_map (λ types. vType.Intersection types r) (operands p)

unfoldable pub leading_intersection_type : Range → Value → Option TsType
leading_intersection_type r p = option_map (λ types. vType.Intersection types r) (types_from p 0)

unfoldable pub conditional_type : Range → Value → Option TsType
conditional_type r p =
    given (type_at p 0) (λ check.
    given (type_at p 1) (λ extends.
    given (type_at p 2) (λ yes.
    given (type_at p 3) (λ no.
    Some (vType.Conditional check extends yes no r)))))

-- ---- functions
unfoldable pub function_type : Range → Value → Option TsType
function_type r p =
    given (optional type_params_at (group p 0)) (λ type_params.
    given (fn_params_at p 1) (λ params.
    given (type_at p 2) (λ ty.
    Some (vType.Fn type_params params ty r))))

unfoldable pub constructor_type : Range → Value → Option TsType
constructor_type r p =
    given (optional type_params_at (group p 1)) (λ type_params.
    given (fn_params_at p 2) (λ params.
    given (type_at p 3) (λ ty.
    Some (vType.Constructor (is_there (group p 0)) type_params params ty r))))

-- `asserts a`, `asserts a is b`
unfoldable pub asserts_result : List ℕ → List Token → Range → Value → Option TsType
asserts_result x ts r p =
    given (this_or_name_at x ts p 0) (λ name.
    given (optional type_at (group p 1)) (λ ty.
    Some (vType.Predicate true name ty r)))

-- `a is b`
unfoldable pub predicate_result : List ℕ → List Token → Range → Value → Option TsType
predicate_result x ts r p =
    given (this_or_name_at x ts p 0) (λ name. given (type_at p 1) (λ ty. Some (vType.Predicate false name (Some ty) r)))

-- ---- elements of tuples
abbrev pub element_by : Bool → Option Ident → Bool → Range → TsType → TsTupleElement
element_by rest label mark r ty =
    roll-TsTupleElement (record { rest = rest; label = label; ty = ty; optional = mark; span = r })

-- a type alone
abbrev pub element_of : Range → TsType → TsTupleElement
element_of r ty = element_by false None false r ty

-- a label, which says itself whether `?` stands behind it
abbrev pub label_at : List ℕ → List Token → Value → ℕ → Option Ident
label_at x ts p n = option_map (marked (is_there (group p (n + 1)))) (ident_at x ts p n)

unfoldable pub rest_element : List ℕ → List Token → Range → Value → Option TsTupleElement
rest_element x ts r p =
    given (optional (label_at x ts) (group p 0)) (λ label.
    given (type_at p 1) (λ ty.
    Some (element_by true label (is_there (group p 2)) r ty)))

unfoldable pub labelled_element : List ℕ → List Token → Range → Value → Option TsTupleElement
labelled_element x ts r p =
    given (label_at x ts p 0) (λ label.
    given (type_at p 2) (λ ty.
    Some (element_by false (Some label) (is_there (group p 3)) r ty)))

unfoldable pub optional_element : Range → Value → Option TsTupleElement
optional_element r p = option_map (element_by false None true r) (type_at p 0)
