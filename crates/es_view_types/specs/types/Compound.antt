-- What a view of a type that holds types tells.
use Rattle.std.specs.Prelude.{ℕ, List, [], ◌∷◌, Option, Some, None, option_map, slice_get}
use Rattle.base.specs.declared.range.Range.{Range}
use Rattle.es_token.specs.declared.token.Token.{Token}
use Rattle.es_grammar.specs.declared.rows.NodeKind.{NodeKind}
use Rattle.es_grammar.specs.declared.rows.NodeKind.TheVariants as l
use Rattle.es_ast.specs.declared.ts.ts.TsType.{TsType}
use Rattle.es_ast.specs.declared.ts.ts.TsType.TheVariants as vType
use Rattle.es_lowering.specs.Value.{Value, given, optional, behind, turns, type_at, type_member_at, element_at}
use Rattle.es_lowering.specs.Texts.{ident_of}
use Rattle.es_lowering.specs.Operators.{listed}
use Rattle.es_lowering.specs.TypeTexts.{type_operators, signed_in}
use Rattle.es_lowering.specs.Types.{indexes, indexed, bracket_end}
use Rattle.es_syntax.specs.declared.cursor.Siblings.{Siblings}
use Rattle.es_syntax.specs.Held.{held, valued}
use Rattle.es_syntax.specs.Roles.{ts_type_in}
use Rattle.es_syntax.specs.Views.{Under, Within}
use Rattle.es_view_types.specs.declared.types.compound.CompoundType.{CompoundType}
use Rattle.es_view_types.specs.declared.types.compound.CompoundType.TheVariants as view

-- the alternatives
abbrev pub compound_types : List NodeKind
compound_types =
    l.UnionType ∷ l.LeadingUnionType ∷ l.IntersectionType ∷ l.LeadingIntersectionType ∷ l.TypeOperator ∷ l.InferType
    ∷ l.ArrayTypes ∷ l.ConditionalType ∷ l.ParenthesizedType ∷ l.MembersType ∷ l.TupleType ∷ l.MappedType ∷ []

-- ---- each form, of what its parts are
unfoldable pub union : Range → Option TsType → Option TsType → Value → Option TsType
union r first second others =
    option_map (λ types. vType.Union types r) (given first (λ first.
    given second (λ second.
    given (turns (λ turn. type_at turn 0) others) (λ rest. Some (first ∷ second ∷ rest)))))

unfoldable pub leading_union : Range → Option TsType → Value → Option TsType
leading_union r first others =
    option_map (λ types. vType.Union types r) (given first (λ first.
    given (turns (λ turn. type_at turn 0) others) (λ rest. Some (first ∷ rest))))

unfoldable pub intersection : Range → Option TsType → Option TsType → Value → Option TsType
intersection r first second others =
    option_map (λ types. vType.Intersection types r) (given first (λ first.
    given second (λ second.
    given (turns (λ turn. type_at turn 0) others) (λ rest. Some (first ∷ second ∷ rest)))))

unfoldable pub leading_intersection : Range → Option TsType → Value → Option TsType
leading_intersection r first others =
    option_map (λ types. vType.Intersection types r) (given first (λ first.
    given (turns (λ turn. type_at turn 0) others) (λ rest. Some (first ∷ rest))))

unfoldable pub operator : Range → Option Token → Option TsType → Option TsType
operator r word ty =
    given (given (option_map (λ t. t.kind) word) (listed type_operators)) (λ op.
    given ty (λ ty. Some (vType.Operator op ty r)))

unfoldable pub infer : List ℕ → Range → Option Token → Option TsType
infer x r name = option_map (λ name. vType.Infer name r) (option_map (ident_of x) name)

-- the first brackets stand behind this token
unfoldable pub array : List Token → Range → ℕ → Option TsType → Value → Value → Option TsType
array ts r after ty first others =
    given ty (λ ty.
    given (optional type_at first) (λ index.
    indexes ts r.start (bracket_end after first) (indexed ts r.start (bracket_end after first) ty index) others))

unfoldable pub conditional : Range → Option TsType → Option TsType → Option TsType → Option TsType → Option TsType
conditional r check extends cons alt =
    given check (λ check.
    given extends (λ extends.
    given cons (λ yes.
    given alt (λ no. Some (vType.Conditional check extends yes no r)))))

unfoldable pub paren : Range → Option TsType → Option TsType
paren r ty = option_map (λ ty. vType.Paren ty r) ty

unfoldable pub braced : Range → Value → Option TsType
braced r members = option_map (λ members. vType.TypeLit members r) (turns (λ turn. type_member_at turn 0) members)

unfoldable pub tuple : Range → Value → Option TsType
tuple r elems = option_map (λ elems. vType.Tuple elems r) (turns (λ turn. element_at turn 0) elems)

unfoldable pub mapped : List ℕ → List Token → Range → Value → Option Token → Option TsType → Value → Value → Value
    → Option TsType
mapped x ts r readonly name constraint name_type mark ty =
    given (signed_in ts readonly) (λ readonly.
    given (option_map (ident_of x) name) (λ name.
    given constraint (λ constraint.
    given (optional type_at name_type) (λ name_type.
    given (signed_in ts mark) (λ optional_mark.
    given (optional type_at ty) (λ ty. Some (vType.Mapped readonly name constraint name_type optional_mark ty r)))))))

-- what a view tells
abbrev pub the_compound : List ℕ → List Token → Range → CompoundType → Option TsType
the_compound x ts r (view.Union first second others) =
    union r (ts_type_in (valued x ts first)) (ts_type_in (valued x ts second)) (held x ts others.entries.now)
the_compound x ts r (view.LeadingUnion first others) =
    leading_union r (ts_type_in (valued x ts first)) (held x ts others.entries.now)
the_compound x ts r (view.Intersection first second others) =
    intersection r (ts_type_in (valued x ts first)) (ts_type_in (valued x ts second)) (held x ts others.entries.now)
the_compound x ts r (view.LeadingIntersection first others) =
    leading_intersection r (ts_type_in (valued x ts first)) (held x ts others.entries.now)
the_compound x ts r (view.Operator word ty) = operator r (slice_get ts word) (ts_type_in (valued x ts ty))
the_compound x ts r (view.Infer name) = infer x r (slice_get ts name)
the_compound x ts r (view.Array ty first others) =
    array ts r (behind (valued x ts ty)) (ts_type_in (valued x ts ty)) (held x ts first.entries.now)
    (held x ts others.entries.now)
the_compound x ts r (view.Conditional check extends cons alt) =
    conditional r (ts_type_in (valued x ts check)) (ts_type_in (valued x ts extends)) (ts_type_in (valued x ts cons))
    (ts_type_in (valued x ts alt))
the_compound x ts r (view.Paren ty) = paren r (ts_type_in (valued x ts ty))
the_compound x ts r (view.Members members) = braced r (held x ts members.entries.now)
the_compound x ts r (view.Tuple elems) = tuple r (held x ts elems.entries.now)
the_compound x ts r (view.Mapped readonly name constraint name_type mark ty) =
    mapped x ts r (held x ts readonly.entries.now) (slice_get ts name) (ts_type_in (valued x ts constraint))
    (held x ts name_type.entries.now) (held x ts mark.entries.now) (held x ts ty.entries.now)
the_compound x ts r view.Broken = None

-- the parts take fewer entries
abbrev pub IsBelow : Siblings → CompoundType → Type 0
IsBelow n (view.Union first second others) = Under first n × Under second n × Within others n
IsBelow n (view.LeadingUnion first others) = Under first n × Within others n
IsBelow n (view.Intersection first second others) = Under first n × Under second n × Within others n
IsBelow n (view.LeadingIntersection first others) = Under first n × Within others n
IsBelow n (view.Operator word ty) = Under ty n
IsBelow n (view.Infer name) = Unit {0}
IsBelow n (view.Array ty first others) = Under ty n × Within first n × Within others n
IsBelow n (view.Conditional check extends cons alt) = Under check n × Under extends n × Under cons n × Under alt n
IsBelow n (view.Paren ty) = Under ty n
IsBelow n (view.Members members) = Within members n
IsBelow n (view.Tuple elems) = Within elems n
IsBelow n (view.Mapped readonly name constraint name_type mark ty) =
    Within readonly n × Under constraint n × Within name_type n × Within mark n × Within ty n
IsBelow n view.Broken = Unit {0}
