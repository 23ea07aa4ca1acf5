-- What expressions of TypeScript become moves with their parts.
use Rattle.std.specs.Prelude.{ℕ, Bool, true, false, List, Option}
use Rattle.base.specs.declared.range.Range.{Range}
use Rattle.es_token.specs.declared.token.Token.{Token}
use Rattle.es_token.specs.declared.token.TokenKind.{TokenKind}
use Rattle.es_token.specs.declared.token.TokenKind.TheVariants as k
use Rattle.grammar_theory.specs.Key.{same_kind}
use Rattle.es_ast.specs.declared.ts.ts.TsPart.{TsPart}
use Rattle.es_ast.specs.declared.ast.Expr.{Expr}
use Rattle.es_lowering.specs.Value.{Value}
use Rattle.es_lowering.specs.TypedExpressions.{typed_call_of, typed_call, typed_call_post, typed_tagged_of, typed_template_post, non_null_of, non_null_post, typed_optional_inner, typed_optional_of, typed_optional_post, typed_new_of, typed_new, asserted_by, type_assertion, turned_by, typed_binary}
use Rattle.std.proofs.Common.{◌≡◌, ap}
use Rattle.es_law_edits.proofs.moved.Expressions.{expr_Bin, expr_Call, expr_New, expr_TaggedTpl, expr_TsAs, expr_TsConstAssertion, expr_TsNonNull, expr_TsSatisfies}
use Rattle.es_law_edits.proofs.moved.Rel.{By, Each, Fun, Opt, end, none, some}
use Rattle.es_law_edits.proofs.moved.Types.{ts_part_TypeAnn}
use Rattle.es_law_edits.specs.moved.Move.{Move, range_to}
use Rattle.es_law_edits.specs.moved.Trees.{expr_to}
use Rattle.es_law_edits.specs.moved.Types.{ts_part_to}
use Rattle.es_law_edits.proofs.moved_lowering.Expressions.{from_byte_moves, index_of_moves, member_of_moves}
use Rattle.es_law_edits.proofs.moved_lowering.Frame.{Moves, Texts, as_group_moves, behind_moves, first_of_moves, given_moves, gone, if_any, leaf, made, map_moves, optional_moves, over, pair, part_moves, same}
use Rattle.es_law_edits.proofs.moved_lowering.Leaves.{token_of_moves}
use Rattle.es_law_edits.proofs.moved_lowering.Operators.{binary_between_moves}
use Rattle.es_law_edits.proofs.moved_lowering.Texts.{kind_at_moves, property_of_moves}
use Rattle.es_law_edits.proofs.moved_lowering.TypedParts.{args_part_at_moves}
use Rattle.es_law_edits.proofs.moved_lowering.Value.{args_at_moves, expr_at_moves, group_moves}

pub typed_call_of_moves : (m : Move) {is_optional is_optional2 : Bool} → is_optional2 ≡ is_optional → {r r2 : Range}
    → By (range_to m) r r2 → {type_args type_args2 : Option TsPart} → Opt (By (ts_part_to m)) type_args type_args2
    → {args args2 : List Expr} → Each (By (expr_to m)) args args2 → {start start2 : ℕ} → By m.place start start2
    → {obj obj2 : Expr} → By (expr_to m) obj obj2
    → By (expr_to m) (typed_call_of is_optional r type_args args start obj)
    (typed_call_of is_optional2 r2 type_args2 args2 start2 obj2)
typed_call_of_moves m is_optional_ r_ type_args_ args_ start_ obj_ =
    expr_Call m obj_ is_optional_ type_args_ args_ (from_byte_moves m start_ r_)

pub typed_call_moves : {m : Move} {is_optional is_optional2 : Bool} → is_optional2 ≡ is_optional → {r r2 : Range}
    → By (range_to m) r r2 → {p p2 : Value} → Moves m p p2
    → Opt (Fun (By m.place) (Fun (By (expr_to m)) (By (expr_to m)))) (typed_call is_optional r p)
    (typed_call is_optional2 r2 p2)
typed_call_moves {m = m} is_optional_ r_ p_ =
    given_moves (args_part_at_moves p_ (same 0))
    (λ type_args type_args2 type_args_. given_moves (args_at_moves p_ (same 1))
    (λ args args2 args_. some
    (λ a a2 a_ b b2 b_. typed_call_of_moves m is_optional_ r_ type_args_ args_ a_ b_)))

pub typed_call_post_moves : {m : Move} {r r2 : Range} → By (range_to m) r r2 → {p p2 : Value} → Moves m p p2
    → Opt (Fun (By m.place) (Fun (By (expr_to m)) (By (expr_to m)))) (typed_call_post r p) (typed_call_post r2 p2)
unfolding typed_call_post
typed_call_post_moves r_ p_ = typed_call_moves (same false) r_ p_

pub typed_tagged_of_moves : (m : Move) {r r2 : Range} → By (range_to m) r r2 → {type_args type_args2 : Option TsPart}
    → Opt (By (ts_part_to m)) type_args type_args2 → {tpl tpl2 : Expr} → By (expr_to m) tpl tpl2 → {start start2 : ℕ}
    → By m.place start start2 → {obj obj2 : Expr} → By (expr_to m) obj obj2
    → By (expr_to m) (typed_tagged_of r type_args tpl start obj)
    (typed_tagged_of r2 type_args2 tpl2 start2 obj2)
typed_tagged_of_moves m r_ type_args_ tpl_ start_ obj_ =
    expr_TaggedTpl m obj_ type_args_ tpl_ (from_byte_moves m start_ r_)

pub typed_template_post_moves : {m : Move} {r r2 : Range} → By (range_to m) r r2 → {p p2 : Value} → Moves m p p2
    → Opt (Fun (By m.place) (Fun (By (expr_to m)) (By (expr_to m)))) (typed_template_post r p)
    (typed_template_post r2 p2)
unfolding typed_template_post
typed_template_post_moves {m = m} r_ p_ =
    given_moves (args_part_at_moves p_ (same 0))
    (λ type_args type_args2 type_args_. map_moves _ _ (expr_at_moves p_ (same 1))
    (λ a a2 a_ b b2 b_ c c2 c_. typed_tagged_of_moves m r_ type_args_ a_ b_ c_))

pub non_null_of_moves : (m : Move) {r r2 : Range} → By (range_to m) r r2 → {start start2 : ℕ} → By m.place start start2
    → {obj obj2 : Expr} → By (expr_to m) obj obj2
    → By (expr_to m) (non_null_of r start obj) (non_null_of r2 start2 obj2)
non_null_of_moves m r_ start_ obj_ = expr_TsNonNull m obj_ (from_byte_moves m start_ r_)

pub non_null_post_moves : (m : Move) {r r2 : Range} → By (range_to m) r r2
    → Opt (Fun (By m.place) (Fun (By (expr_to m)) (By (expr_to m)))) (non_null_post r) (non_null_post r2)
unfolding non_null_post
non_null_post_moves m r_ = some (λ a a2 a_ b b2 b_. non_null_of_moves m r_ a_ b_)

pub typed_optional_inner_moves : {m : Move} {x y : List ℕ} {ts us : List Token} → Texts m x y ts us → {r r2 : Range}
    → By (range_to m) r r2 → {g g2 : Value} → Moves m g g2
    → Opt (Fun (By m.place) (Fun (By (expr_to m)) (By (expr_to m)))) (typed_optional_inner x ts r g)
    (typed_optional_inner y us r2 g2)
typed_optional_inner_moves {m = m} told r_ (pair (leaf n) vs_) =
    map_moves _ _ (given_moves (token_of_moves told (leaf n)) (λ a a2 a_. property_of_moves told a_))
    (λ a a2 a_ b b2 b_ c c2 c_. member_of_moves m (same true) r_ a_ b_ c_)
typed_optional_inner_moves told r_ gone = typed_call_moves (same true) r_ gone
typed_optional_inner_moves told r_ over = typed_call_moves (same true) r_ over
typed_optional_inner_moves told r_ (pair gone a) = typed_call_moves (same true) r_ (pair gone a)
typed_optional_inner_moves told r_ (pair over a) = typed_call_moves (same true) r_ (pair over a)
typed_optional_inner_moves told r_ (pair (pair a b) c) = typed_call_moves (same true) r_ (pair (pair a b) c)
typed_optional_inner_moves told r_ (pair (made a b c) d) = typed_call_moves (same true) r_ (pair (made a b c) d)
typed_optional_inner_moves told r_ (leaf a) = typed_call_moves (same true) r_ (leaf a)
typed_optional_inner_moves told r_ (made a b c) = typed_call_moves (same true) r_ (made a b c)

pub typed_optional_of_moves : {m : Move} {x y : List ℕ} {ts us : List Token} → Texts m x y ts us → {r r2 : Range}
    → By (range_to m) r r2 → {v v2 : Value} → Moves m v v2
    → Opt (Fun (By m.place) (Fun (By (expr_to m)) (By (expr_to m)))) (typed_optional_of x ts r v)
    (typed_optional_of y us r2 v2)
typed_optional_of_moves {m = m} told r_ (made from to it_) =
    map_moves _ _ it_.expr (λ a a2 a_ b b2 b_ c c2 c_. index_of_moves m (same true) r_ a_ b_ c_)
typed_optional_of_moves {m = m} told r_ gone = typed_optional_inner_moves told r_ (as_group_moves {m = m} gone)
typed_optional_of_moves {m = m} told r_ over = typed_optional_inner_moves told r_ (as_group_moves {m = m} over)
typed_optional_of_moves told r_ (pair a b) = typed_optional_inner_moves told r_ (as_group_moves (pair a b))
typed_optional_of_moves {m = m} told r_ (leaf a) = typed_optional_inner_moves told r_ (as_group_moves {m = m} (leaf a))

pub typed_optional_post_moves : {m : Move} {x y : List ℕ} {ts us : List Token} → Texts m x y ts us → {r r2 : Range}
    → By (range_to m) r r2 → {p p2 : Value} → Moves m p p2
    → Opt (Fun (By m.place) (Fun (By (expr_to m)) (By (expr_to m)))) (typed_optional_post x ts r p)
    (typed_optional_post y us r2 p2)
unfolding typed_optional_post
typed_optional_post_moves told r_ p_ = typed_optional_of_moves told r_ (part_moves (group_moves p_ (same 0)) (same 0))

pub typed_new_of_moves : (m : Move) {r r2 : Range} → By (range_to m) r r2 → {callee callee2 : Expr}
    → By (expr_to m) callee callee2 → {type_args type_args2 : Option TsPart}
    → Opt (By (ts_part_to m)) type_args type_args2 → {d d2 : Option (List Expr)} → Opt (Each (By (expr_to m))) d d2
    → By (expr_to m) (typed_new_of r callee type_args d) (typed_new_of r2 callee2 type_args2 d2)
typed_new_of_moves m r_ callee_ type_args_ (some args_) = expr_New m callee_ type_args_ (same true) args_ r_
typed_new_of_moves m r_ callee_ type_args_ none = expr_New m callee_ type_args_ (same false) end r_

pub typed_new_moves : {m : Move} {r r2 : Range} → By (range_to m) r r2 → {p p2 : Value} → Moves m p p2
    → Opt (By (expr_to m)) (typed_new r p) (typed_new r2 p2)
unfolding typed_new
typed_new_moves {m = m} r_ p_ =
    given_moves (expr_at_moves p_ (same 0))
    (λ callee callee2 callee_. given_moves (args_part_at_moves p_ (same 1))
    (λ type_args type_args2 type_args_. given_moves
    (optional_moves (λ a a2 a_ b b2 b_. args_at_moves a_ b_) (group_moves p_ (same 2)))
    (λ args args2 args_. some (typed_new_of_moves m r_ callee_ type_args_ args_))))

pub asserted_by_moves : {m : Move} {r r2 : Range} → By (range_to m) r r2 → {e e2 : Expr} → By (expr_to m) e e2
    → {kind kind2 : TokenKind} → kind2 ≡ kind → {d d2 : Value} → Moves m d d2
    → Opt (By (expr_to m)) (asserted_by r e kind d) (asserted_by r2 e2 kind2 d2)
asserted_by_moves {m = m} r_ e_ kind_ (leaf n) = some (expr_TsConstAssertion m e_ r_)
asserted_by_moves {m = m} r_ e_ kind_ (made from to it_) =
    map_moves _ _ it_.ts_type
    (λ ty ty2 ty_. if_any (By (expr_to m)) (ap (λ kind. same_kind kind k.AsWord) kind_)
    (expr_TsAs m e_ (some (ts_part_TypeAnn m ty_)) r_)
    (expr_TsSatisfies m e_ (some (ts_part_TypeAnn m ty_)) r_))
asserted_by_moves r_ e_ kind_ gone = none
asserted_by_moves r_ e_ kind_ over = none
asserted_by_moves r_ e_ kind_ (pair a b) = none

pub type_assertion_moves : {m : Move} {r r2 : Range} → By (range_to m) r r2 → {p p2 : Value} → Moves m p p2
    → Opt (By (expr_to m)) (type_assertion r p) (type_assertion r2 p2)
unfolding type_assertion
type_assertion_moves r_ p_ =
    given_moves (expr_at_moves p_ (same 1))
    (λ e e2 e_. asserted_by_moves r_ e_ (same k.AsWord) (part_moves (group_moves p_ (same 0)) (same 0)))

pub turned_by_moves : {m : Move} {x y : List ℕ} {ts us : List Token} → Texts m x y ts us → {r r2 : Range}
    → By (range_to m) r r2 → {e e2 : Expr} → By (expr_to m) e e2 → {from from2 : ℕ} → from2 ≡ from → {g g2 : Value}
    → Moves m g g2 → {v v2 : Value} → Moves m v v2
    → Opt (By (expr_to m)) (turned_by ts r e from g v) (turned_by us r2 e2 from2 g2 v2)
turned_by_moves told r_ e_ from_ g_ (pair v_ vs_) =
    given_moves (kind_at_moves told g_ (same 0)) (λ kind kind2 kind_. asserted_by_moves r_ e_ kind_ v_)
turned_by_moves {m = m} told r_ e_ from_ g_ gone =
    given_moves (binary_between_moves told from_ (first_of_moves {m = m} gone))
    (λ op op2 op_. given_moves (expr_at_moves g_ (same 1))
    (λ right right2 right_. some (expr_Bin m op_ e_ right_ r_)))
turned_by_moves {m = m} told r_ e_ from_ g_ over =
    given_moves (binary_between_moves told from_ (first_of_moves {m = m} over))
    (λ op op2 op_. given_moves (expr_at_moves g_ (same 1))
    (λ right right2 right_. some (expr_Bin m op_ e_ right_ r_)))
turned_by_moves {m = m} told r_ e_ from_ g_ (leaf a) =
    given_moves (binary_between_moves told from_ (first_of_moves {m = m} (leaf a)))
    (λ op op2 op_. given_moves (expr_at_moves g_ (same 1))
    (λ right right2 right_. some (expr_Bin m op_ e_ right_ r_)))
turned_by_moves {m = m} told r_ e_ from_ g_ (made a b c) =
    given_moves (binary_between_moves told from_ (first_of_moves (made a b c)))
    (λ op op2 op_. given_moves (expr_at_moves g_ (same 1))
    (λ right right2 right_. some (expr_Bin m op_ e_ right_ r_)))

pub typed_binary_moves : {m : Move} {x y : List ℕ} {ts us : List Token} → Texts m x y ts us → {r r2 : Range}
    → By (range_to m) r r2 → {p p2 : Value} → Moves m p p2
    → Opt (By (expr_to m)) (typed_binary ts r p) (typed_binary us r2 p2)
unfolding typed_binary
typed_binary_moves told r_ p_ =
    given_moves (expr_at_moves p_ (same 0))
    (λ left left2 left_. turned_by_moves told r_ left_ (behind_moves (part_moves p_ (same 0)))
    (group_moves p_ (same 1)) (part_moves (group_moves p_ (same 1)) (same 1)))
