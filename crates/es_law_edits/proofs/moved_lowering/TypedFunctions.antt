-- What functions and classes of TypeScript become moves with their parts.
use Rattle.std.specs.Prelude.{ℕ, ◌+◌, Bool, false, List, Option}
use Rattle.base.specs.declared.range.Range.{Range}
use Rattle.es_token.specs.declared.token.Token.{Token}
use Rattle.es_token.specs.declared.token.TokenKind.{TokenKind}
use Rattle.es_token.specs.declared.token.TokenKind.TheVariants as k
use Rattle.grammar_theory.specs.Key.{same_kind}
use Rattle.es_ast.specs.declared.ts.leaf.Ident.{Ident}
use Rattle.es_ast.specs.declared.ts.leaf.MethodKind.{MethodKind}
use Rattle.es_ast.specs.declared.ast.Stmt.{Stmt}
use Rattle.es_lowering.specs.Value.{Value, Signature}
use Rattle.es_lowering.specs.Functions.{plain}
use Rattle.es_lowering.specs.TypedFunctions.{typed_function_of, typed_function, typed_arrow, typed_method_property, typed_accessor_property, typed_class, typed_method_member, typed_accessor_member, with_accessor, is_mark, typed_field, index_member}
use Rattle.std.proofs.Common.{◌≡◌, ap}
use Rattle.es_law_edits.proofs.moved.Expressions.{expr_Arrow, prop_Method}
use Rattle.es_law_edits.proofs.moved.Functions.{class_made, class_member_Method, class_member_Prop, class_member_TsIndexSignature, function_made}
use Rattle.es_law_edits.proofs.moved.Rel.{By, Opt, Same, none, some}
use Rattle.es_law_edits.proofs.moved.Types.{ts_part_TypeAnn}
use Rattle.es_law_edits.specs.moved.Leaves.{ident_to}
use Rattle.es_law_edits.specs.moved.Move.{Move, range_to}
use Rattle.es_law_edits.specs.moved.Trees.{class_member_to, class_to, expr_to, function_to, prop_to, stmt_to}
use Rattle.es_law_edits.proofs.moved_lowering.Frame.{Moves, Texts, behind_moves, first_of_moves, given_moves, is_there_moves, listed_moves, map_moves, optional_moves, part_moves, same, turns_moves, two}
use Rattle.es_law_edits.proofs.moved_lowering.Functions.{body_of_moves}
use Rattle.es_law_edits.proofs.moved_lowering.Leaves.{span_of_moves}
use Rattle.es_law_edits.proofs.moved_lowering.Texts.{ident_at_moves, kind_at_moves, own_name_at_moves}
use Rattle.es_law_edits.proofs.moved_lowering.TypedMoves.{SignatureMoves}
use Rattle.es_law_edits.proofs.moved_lowering.TypedParts.{annotation_at_moves, args_part_at_moves, behind_body_moves, body_in_moves, heritage_in_moves, modifiers_in_moves, params_part_at_moves}
use Rattle.es_law_edits.proofs.moved_lowering.Value.{expr_at_moves, group_moves, key_at_moves, member_at_moves, params_at_moves, signature_at_moves, stmt_at_moves, type_at_moves}

pub typed_function_of_moves : (m : Move) {is_async is_async2 : Bool} → is_async2 ≡ is_async
    → {is_generator is_generator2 : Bool} → is_generator2 ≡ is_generator → {r r2 : Range} → By (range_to m) r r2
    → {name name2 : Option Ident} → Opt (By (ident_to m)) name name2 → {signature signature2 : Signature}
    → SignatureMoves m signature signature2 → {body body2 : Option Stmt} → Opt (By (stmt_to m)) body body2
    → By (function_to m) (typed_function_of is_async is_generator r name signature body)
    (typed_function_of is_async2 is_generator2 r2 name2 signature2 body2)
typed_function_of_moves m is_async_ is_generator_ r_ name_ signature_ body_ =
    function_made m name_ is_async_ is_generator_ signature_.0 signature_.1 signature_.2 body_ r_

pub typed_function_moves : {m : Move} {x y : List ℕ} {ts us : List Token} → Texts m x y ts us
    → {is_async is_async2 : Bool} → is_async2 ≡ is_async → {r r2 : Range} → By (range_to m) r r2 → {p p2 : Value}
    → Moves m p p2 → Opt (By (function_to m)) (typed_function x ts is_async r p)
    (typed_function y us is_async2 r2 p2)
unfolding typed_function
typed_function_moves {m = m} told is_async_ r_ p_ =
    given_moves (own_name_at_moves told p_ (same 1))
    (λ name name2 name_. given_moves (signature_at_moves p_ (same 2))
    (λ signature signature2 signature_. given_moves (body_in_moves (group_moves p_ (same 3)))
    (λ body body2 body_. some
    (typed_function_of_moves m is_async_ (is_there_moves (group_moves p_ (same 0))) r_ name_ signature_
    body_))))

pub typed_arrow_moves : {m : Move} {x y : List ℕ} {ts us : List Token} → Texts m x y ts us
    → {is_async is_async2 : Bool} → is_async2 ≡ is_async → {r r2 : Range} → By (range_to m) r r2 → {p p2 : Value}
    → Moves m p p2 → Opt (By (expr_to m)) (typed_arrow ts is_async r p) (typed_arrow us is_async2 r2 p2)
unfolding typed_arrow
typed_arrow_moves {m = m} told is_async_ r_ p_ =
    given_moves (params_part_at_moves p_ (same 0))
    (λ type_params type_params2 type_params_. given_moves (params_at_moves p_ (same 1))
    (λ params params2 params_. given_moves (annotation_at_moves p_ (same 2))
    (λ result result2 result_. given_moves
    (body_of_moves told (part_moves (group_moves p_ (same 3)) (same 0)))
    (λ body body2 body_. some
    (expr_Arrow m (typed_function_of_moves m is_async_ (same false) r_ none
    (type_params_, params_, result_) (some body_)))))))

pub typed_method_property_moves : {m : Move} {x y : List ℕ} {ts us : List Token} → Texts m x y ts us
    → {kind kind2 : MethodKind} → kind2 ≡ kind → {is_async is_async2 : Bool} → is_async2 ≡ is_async
    → {is_generator is_generator2 : Bool} → is_generator2 ≡ is_generator → {r r2 : Range} → By (range_to m) r r2
    → {p p2 : Value} → Moves m p p2 → {n n2 : ℕ} → n2 ≡ n
    → Opt (By (prop_to m)) (typed_method_property ts kind is_async is_generator r p n)
    (typed_method_property us kind2 is_async2 is_generator2 r2 p2 n2)
unfolding typed_method_property
typed_method_property_moves {m = m} told kind_ is_async_ is_generator_ r_ p_ n_ =
    given_moves (key_at_moves (group_moves p_ n_) (same 0))
    (λ key key2 key_. given_moves (signature_at_moves (group_moves p_ n_) (same 1))
    (λ signature signature2 signature_. given_moves (stmt_at_moves p_ (ap (λ n. n + 1) n_))
    (λ body body2 body_. some
    (prop_Method m kind_ key_.0 key_.1
    (typed_function_of_moves m is_async_ is_generator_
    (span_of_moves told (first_of_moves (part_moves (group_moves p_ n_) (same 1)))
    (behind_moves (part_moves p_ (ap (λ n. n + 1) n_)))) none signature_ (some body_))
    r_))))

pub typed_accessor_property_moves : {m : Move} {x y : List ℕ} {ts us : List Token} → Texts m x y ts us → {r r2 : Range}
    → By (range_to m) r r2 → {p p2 : Value} → Moves m p p2
    → Opt (By (prop_to m)) (typed_accessor_property ts r p) (typed_accessor_property us r2 p2)
unfolding typed_accessor_property
typed_accessor_property_moves told r_ p_ =
    given_moves (given_moves (kind_at_moves told p_ (same 0)) (λ a a2 a_. listed_moves _ a_))
    (λ kind kind2 kind_. typed_method_property_moves told kind_ (same false) (same false) r_ p_ (same 1))

pub typed_class_moves : {m : Move} {x y : List ℕ} {ts us : List Token} → Texts m x y ts us
    → {is_abstract is_abstract2 : Bool} → is_abstract2 ≡ is_abstract → {r r2 : Range} → By (range_to m) r r2
    → {p p2 : Value} → Moves m p p2
    → Opt (By (class_to m)) (typed_class x ts is_abstract r p) (typed_class y us is_abstract2 r2 p2)
unfolding typed_class
typed_class_moves {m = m} told is_abstract_ r_ p_ =
    given_moves (own_name_at_moves told p_ (same 0))
    (λ name name2 name_. given_moves (params_part_at_moves p_ (same 1))
    (λ type_params type_params2 type_params_. given_moves
    (optional_moves (λ a a2 a_ b b2 b_. expr_at_moves a_ b_) (group_moves p_ (same 2)))
    (λ super_class super_class2 super_class_. given_moves
    (args_part_at_moves (group_moves p_ (same 2)) (same 1))
    (λ super_type_args super_type_args2 super_type_args_. given_moves
    (heritage_in_moves told (group_moves p_ (same 3)))
    (λ implements implements2 implements_. given_moves
    (turns_moves (λ turn turn2 turn_. member_at_moves turn_ (same 0))
    (group_moves p_ (same 4)))
    (λ members members2 members_. some
    (class_made m name_ is_abstract_ type_params_ super_class_
    super_type_args_ implements_ members_ r_)))))))

pub typed_method_member_moves : {m : Move} {x y : List ℕ} {ts us : List Token} → Texts m x y ts us
    → {kind kind2 : MethodKind} → kind2 ≡ kind → {is_async is_async2 : Bool} → is_async2 ≡ is_async
    → {is_generator is_generator2 : Bool} → is_generator2 ≡ is_generator → {r r2 : Range} → By (range_to m) r r2
    → {p p2 : Value} → Moves m p p2 → {n n2 : ℕ} → n2 ≡ n
    → Opt (By (class_member_to m)) (typed_method_member ts kind is_async is_generator r p n)
    (typed_method_member us kind2 is_async2 is_generator2 r2 p2 n2)
unfolding typed_method_member
typed_method_member_moves {m = m} told kind_ is_async_ is_generator_ r_ p_ n_ =
    given_moves (modifiers_in_moves told (group_moves p_ (same 0)) (same plain))
    (λ modifiers modifiers2 modifiers_. given_moves (key_at_moves (group_moves p_ n_) (same 0))
    (λ key key2 key_. given_moves (signature_at_moves (group_moves p_ n_) (same 2))
    (λ signature signature2 signature_. given_moves (body_in_moves (group_moves p_ (ap (λ n. n + 1) n_)))
    (λ body body2 body_. some
    (class_member_Method m modifiers_ kind_ key_.0 key_.1
    (is_there_moves (group_moves (group_moves p_ n_) (same 1)))
    (typed_function_of_moves m is_async_ is_generator_
    (span_of_moves told (first_of_moves (part_moves (group_moves p_ n_) (same 2)))
    (behind_body_moves (group_moves p_ (ap (λ n. n + 1) n_))
    (behind_moves (part_moves (group_moves p_ n_) (same 2))))) none signature_
    body_) r_)))))

pub typed_accessor_member_moves : {m : Move} {x y : List ℕ} {ts us : List Token} → Texts m x y ts us → {r r2 : Range}
    → By (range_to m) r r2 → {p p2 : Value} → Moves m p p2
    → Opt (By (class_member_to m)) (typed_accessor_member ts r p) (typed_accessor_member us r2 p2)
unfolding typed_accessor_member
typed_accessor_member_moves told r_ p_ =
    given_moves (given_moves (kind_at_moves told p_ (same 1)) (λ a a2 a_. listed_moves _ a_))
    (λ kind kind2 kind_. typed_method_member_moves told kind_ (same false) (same false) r_ p_ (same 2))

pub is_mark_moves : (m : Move) {kind kind2 : TokenKind} → kind2 ≡ kind → {b b2 : Option TokenKind} → Opt Same b b2
    → is_mark kind2 b2 ≡ is_mark kind b
is_mark_moves m kind_ (some other_) = two same_kind other_ kind_
is_mark_moves m kind_ none = same false

pub typed_field_moves : {m : Move} {x y : List ℕ} {ts us : List Token} → Texts m x y ts us
    → {accessor accessor2 : Bool} → accessor2 ≡ accessor → {r r2 : Range} → By (range_to m) r r2 → {p p2 : Value}
    → Moves m p p2 → Opt (By (class_member_to m)) (typed_field ts accessor r p) (typed_field us accessor2 r2 p2)
unfolding typed_field
typed_field_moves {m = m} told accessor_ r_ p_ =
    given_moves (modifiers_in_moves told (group_moves p_ (same 0)) (same plain))
    (λ modifiers modifiers2 modifiers_. given_moves (key_at_moves p_ (same 1))
    (λ key key2 key_. given_moves (annotation_at_moves p_ (same 3))
    (λ ty ty2 ty_. given_moves
    (optional_moves (λ a a2 a_ b b2 b_. expr_at_moves a_ b_) (group_moves p_ (same 4)))
    (λ value value2 value_. some
    (class_member_Prop m (two (λ a b. with_accessor a b) accessor_ modifiers_) key_.0 key_.1
    (is_mark_moves m (same k.Question)
    (kind_at_moves told (group_moves p_ (same 2)) (same 0)))
    (is_mark_moves m (same k.Exclamation)
    (kind_at_moves told (group_moves p_ (same 2)) (same 0))) ty_ value_ r_)))))

pub index_member_moves : {m : Move} {x y : List ℕ} {ts us : List Token} → Texts m x y ts us → {r r2 : Range}
    → By (range_to m) r r2 → {p p2 : Value} → Moves m p p2
    → Opt (By (class_member_to m)) (index_member x ts r p) (index_member y us r2 p2)
unfolding index_member
index_member_moves {m = m} told r_ p_ =
    given_moves (modifiers_in_moves told (group_moves p_ (same 0)) (same plain))
    (λ modifiers modifiers2 modifiers_. given_moves (ident_at_moves told p_ (same 1))
    (λ name name2 name_. given_moves
    (map_moves _ _ (type_at_moves p_ (same 2)) (λ a a2 a_. ts_part_TypeAnn m a_))
    (λ of of2 of_. given_moves (annotation_at_moves p_ (same 3))
    (λ ty ty2 ty_. some (class_member_TsIndexSignature m modifiers_ name_ (some of_) ty_ r_)))))
